-- `address_text::put_row` meets its contract. From the laws of Rows.
use Rattle.std.proofs.Common.{◌≡◌, ◌<◌, length, get_or, arith, rules}
use Rattle.address_text.proofs.Laws.Rows.{joined_first, joined_next, joined_end}
use Rattle.address_text.proofs.put_row.Goals as goal

pub loop-i-init : goal.loop-i-init
loop-i-init g c = record {
  same = search rules;
  joined = λ f xs e q b.
      let h : 0 < length xs = omega arith in
      let v : c.number.result ≡ get_or xs 0 0 = q 0 _ h c.number.ensures in
      joined_first f _ _ xs _ _ h _ v _ _ (c.put_numeral.ensures.wrote f (rw v (b 0 h)));
}

pub loop-i-preserved : goal.loop-i-preserved
loop-i-preserved g c = record {
  same = search rules;
  joined = λ f xs e q b.
      let h : c.loop-i.i < length xs = omega arith in
      let v : c.number-in-loop-i.result ≡ get_or xs c.loop-i.i 0 = q c.loop-i.i _ h c.number-in-loop-i.ensures in
      joined_next f _ _ xs _ _ _ _ _ (c.loop-i.invariant.joined f xs e q b) h _ v _ _ _ _ c.put.ensures.wrote (c.put_numeral-in-loop-i.ensures.wrote f (rw v (b c.loop-i.i h)));
}

pub returns : goal.returns
returns g c = record { same = search rules; wrote = λ f xs e q b. joined_end f _ _ xs _ _ _ _ _ (c.loop-i.invariant.joined f xs e q b) (omega arith) }
