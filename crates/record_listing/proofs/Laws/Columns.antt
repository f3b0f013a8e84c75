-- A term's line, written piece after piece: one rule for each way out of the functions that write it. From the definitions of Lines and the laws on
-- writing of `text`.
use Rattle.std.proofs.Common.{None, Option, Some, Bor, unwrap_or}
use Prim.Native.Nat.{ℕ}
use mathlib.Core.Path.{◌≡◌, ◌∙◌}
use mathlib.Core.List.{List, [], ◌∷◌, ◌++◌, map}
use mathlib.Core.Bool.{Bool, true, false, cond, not}
use lib.Dec.{eqb}
use Rattle.text.specs.Bytes.{part, lower}
use Rattle.text.specs.Texts.{bytes}
use Rattle.text.specs.Writing.{Writes}
use Rattle.text.specs.declared.writing.Writer.{Writer}
use Rattle.std.specs.Bool.{then_some}
use Rattle.record_listing.specs.declared.Columns.{Columns}
use Rattle.text.proofs.Laws.Writing.{wrote_then}
use Rattle.address_text.specs.Digits.{in_decimal}
use Rattle.address.specs.declared.Address.{Address}
use Rattle.address.specs.declared.Address.TheVariants.{IPv4, IPv6}
use Rattle.records.specs.Readings.{absent, present, bytes_or}
use Rattle.records.specs.Numbers.{said_of, sign_of}
use Rattle.records.specs.Answers.{ReadsArgument}
use Rattle.records.specs.declared.Term.{Term}
use Rattle.record_listing.specs.Lines.{sign_text, length_text, lead, argument_text, columns, said_line, column_of, argument_of, columns_of}

-- one piece after another
pub writes_then : (xs ys : List ℕ) (a b c : Writer) → Writes xs a b → Writes ys b c → Writes (xs ++ ys) a c
writes_then xs ys a b c v w =
    record { wrote = wrote_then a.out.now a.at xs ys b.out.now c.out.now b.at c.at v.wrote w.wrote; same = w.same ∙ v.same }

module _ (a b c : Writer) (u : Writes (32 ∷ []) a b) where
  -- `put_sign`
  pub sign_written : (sign : Option ℕ) (x : ℕ) → x ≡ unwrap_or sign 46 → Writes (x ∷ []) b c → Writes (bytes " " ++ sign_text (column_of sign)) a c
  unfolding sign_text
  sign_written (Some n) x e v = writes_then (32 ∷ []) (n ∷ []) a b c u (rw e at v)
  sign_written None x e v = writes_then (32 ∷ []) (46 ∷ []) a b c u (rw e at v)

  -- `put_length`
  module _ (l : Option ℕ) where
    pub length_written : (n : ℕ) → l ≡ Some n → Writes (in_decimal n) b c → Writes (bytes " " ++ length_text (column_of l)) a c
    unfolding length_text
    length_written n e v = rw e (writes_then (32 ∷ []) (in_decimal n) a b c u v)

    pub no_length_written : l ≡ None → Writes (46 ∷ []) b c → Writes (bytes " " ++ length_text (column_of l)) a c
    unfolding length_text
    no_length_written e v = rw e (writes_then (32 ∷ []) (46 ∷ []) a b c u v)

  -- `put_argument`
  module _ (sign : Option ℕ) (argument : Option (Bor (List ℕ))) where
    pub no_argument_written : argument ≡ None → Writes (46 ∷ []) b c → Writes (bytes " " ++ argument_text (column_of sign) (argument_of argument)) a c
    unfolding argument_text
    no_argument_written e v = rw e (writes_then (32 ∷ []) (46 ∷ []) a b c u v)

    pub argument_written : (x : Bor (List ℕ)) → argument ≡ Some x → (l : ℕ) → l ≡ lead (column_of sign) → Writes (l ∷ []) b c → (d : Writer) → Writes x.now c d
        → Writes (bytes " " ++ argument_text (column_of sign) (argument_of argument)) a d
    unfolding argument_text
    argument_written x e l p v d w = rw (e, ← p) (writes_then (32 ∷ []) (l ∷ x.now) a b d u (writes_then (l ∷ []) x.now b c d v w))

-- `lead_of`
module _ (c : Option ℕ) where
  pub mechanism_lead : (b : ℕ) → c ≡ Some b → 58 ≡ lead (column_of c)
  unfolding lead
  mechanism_lead b e = rw e

  pub modifier_lead : c ≡ None → 61 ≡ lead (column_of c)
  unfolding lead
  modifier_lead e = rw e

-- `put_columns`
module _ (x : Columns) where
  pub columns_written : (a b c d e f g : Writer) → Writes (map lower x.name.now) a b → Writes (bytes " " ++ sign_text (column_of x.sign)) b c
      → Writes (bytes " " ++ argument_text (column_of x.sign) (argument_of x.argument)) c d → Writes (bytes " " ++ length_text (column_of x.four)) d e
      → Writes (bytes " " ++ length_text (column_of x.six)) e f → Writes (10 ∷ []) f g → Writes (columns_of x) a g
  unfolding columns
  columns_written a b c d e f g p q r s t u =
      writes_then _ _ a f g (writes_then _ _ a e f (writes_then _ _ a d e (writes_then _ _ a c d (writes_then _ _ a b c p q) r) s) t) u

-- an argument that may be absent, as the code tells it
given_is : (t : Bool) (x : Bor (List ℕ)) (y : List ℕ) → x.now ≡ bytes_or (cond t absent (present y)) → (arg : Option (Bor (List ℕ)))
    → arg ≡ then_some (not t) x → argument_of arg ≡ cond t absent (present y)
given_is true x y e arg h = rw h
given_is false x y e arg h = rw (h, e)

-- `said_columns`
module _ (s : List ℕ) (at next : ℕ) (t : Term) (argument : Bor (List ℕ)) (said : ReadsArgument s at next t argument.now) (sign : Option ℕ) (signed : sign ≡ sign_of t) where
  pub all_said : (g : ℕ) → t ≡ Term.All g → (name : Bor (List ℕ)) → name.now ≡ bytes "all"
      → columns_of (record { name = name; sign = sign; argument = None; four = None; six = None }) ≡ said_line (said_of (part s at next) t)
  unfolding said_line said_of
  all_said g e name n = rw (signed, e, n)

  pub include_said : (g from to : ℕ) → t ≡ Term.Include g from to → (name : Bor (List ℕ)) → name.now ≡ bytes "include"
      → columns_of (record { name = name; sign = sign; argument = Some argument; four = None; six = None }) ≡ said_line (said_of (part s at next) t)
  unfolding said_line said_of
  include_said g from to e name n = let b = rw e at said in rw (signed, e, n, b)

  pub exists_said : (g from to : ℕ) → t ≡ Term.Exists g from to → (name : Bor (List ℕ)) → name.now ≡ bytes "exists"
      → columns_of (record { name = name; sign = sign; argument = Some argument; four = None; six = None }) ≡ said_line (said_of (part s at next) t)
  unfolding said_line said_of
  exists_said g from to e name n = let b = rw e at said in rw (signed, e, n, b)

  pub redirect_said : (from to : ℕ) → t ≡ Term.Redirect from to → (name : Bor (List ℕ)) → name.now ≡ bytes "redirect"
      → columns_of (record { name = name; sign = sign; argument = Some argument; four = None; six = None }) ≡ said_line (said_of (part s at next) t)
  unfolding said_line said_of
  redirect_said from to e name n = let b = rw e at said in rw (signed, e, n, b)

  pub exp_said : (from to : ℕ) → t ≡ Term.Explanation from to → (name : Bor (List ℕ)) → name.now ≡ bytes "exp"
      → columns_of (record { name = name; sign = sign; argument = Some argument; four = None; six = None }) ≡ said_line (said_of (part s at next) t)
  unfolding said_line said_of
  exp_said from to e name n = let b = rw e at said in rw (signed, e, n, b)

  pub a_said : (g from to four six : ℕ) → t ≡ Term.A g from to four six → (arg : Option (Bor (List ℕ))) → arg ≡ then_some (not (eqb from to)) argument → (name : Bor (List ℕ)) → name.now ≡ bytes "a"
      → columns_of (record { name = name; sign = sign; argument = arg; four = Some four; six = Some six }) ≡ said_line (said_of (part s at next) t)
  unfolding said_line said_of
  a_said g from to four six e arg p name n =
      let b = rw e at said in rw (signed, e, n, given_is (eqb from to) argument (part (part s at next) from to) b arg p)

  pub mx_said : (g from to four six : ℕ) → t ≡ Term.Mx g from to four six → (arg : Option (Bor (List ℕ))) → arg ≡ then_some (not (eqb from to)) argument → (name : Bor (List ℕ)) → name.now ≡ bytes "mx"
      → columns_of (record { name = name; sign = sign; argument = arg; four = Some four; six = Some six }) ≡ said_line (said_of (part s at next) t)
  unfolding said_line said_of
  mx_said g from to four six e arg p name n =
      let b = rw e at said in rw (signed, e, n, given_is (eqb from to) argument (part (part s at next) from to) b arg p)

  pub ptr_said : (g from to : ℕ) → t ≡ Term.Ptr g from to → (arg : Option (Bor (List ℕ))) → arg ≡ then_some (not (eqb from to)) argument → (name : Bor (List ℕ)) → name.now ≡ bytes "ptr"
      → columns_of (record { name = name; sign = sign; argument = arg; four = None; six = None }) ≡ said_line (said_of (part s at next) t)
  unfolding said_line said_of
  ptr_said g from to e arg p name n =
      let b = rw e at said in rw (signed, e, n, given_is (eqb from to) argument (part (part s at next) from to) b arg p)

  pub unknown_said : (name to : ℕ) → t ≡ Term.Unknown name to → (u : List ℕ) → u ≡ part s at next → (x : Bor (List ℕ)) → x.now ≡ part u 0 name
      → columns_of (record { name = x; sign = sign; argument = Some argument; four = None; six = None }) ≡ said_line (said_of (part s at next) t)
  unfolding said_line said_of
  unknown_said name to e u p x q = let b = rw e at said in rw (signed, e, b, q, p)

  module _ (g from to : ℕ) (a : Address) (n : ℕ) (e : t ≡ Term.Network g from to a n) (name : Bor (List ℕ)) where
    pub ip4_said : (v : ℕ) → a ≡ IPv4 v → name.now ≡ bytes "ip4"
        → columns_of (record { name = name; sign = sign; argument = Some argument; four = Some n; six = None }) ≡ said_line (said_of (part s at next) t)
    unfolding said_line said_of
    ip4_said v k q = let b = rw (e, k) at said in rw (signed, e, k, q, b)

    pub ip6_said : (high low : ℕ) → a ≡ IPv6 high low → name.now ≡ bytes "ip6"
        → columns_of (record { name = name; sign = sign; argument = Some argument; four = None; six = Some n }) ≡ said_line (said_of (part s at next) t)
    unfolding said_line said_of
    ip6_said high low k q = let b = rw (e, k) at said in rw (signed, e, k, q, b)
