-- `ok` is printed of just those names and records that may be published (`ok_means`). From publishing's laws of the desk; any other text is longer.
use Prim.Native.Nat.{ℕ, ◌<◌}
use mathlib.Core.Path.{◌≡◌, refl, ap}
use mathlib.Core.List.{List, [], ◌∷◌}
use native.Mathlib.Omega.{arith}
use lib.ListN.{length, length-append}
use Rattle.text.specs.Texts.{bytes}
use Rattle.record_listing.specs.Lines.{refusal_line}
use Rattle.publishing.specs.Listing.{Entry}
use Rattle.publishing.proofs.Laws.Desk.{listed_nothing, nothing_listed}
use Rattle.breach_listing.specs.Lines.{caret_text, head_text, breach_text, breach_texts, list_text, Prints}
use Rattle.breach_listing.specs.Meaning.{MayGoOut, OkMeans}

-- other texts have more than three bytes
refusal_more : (number place : ℕ) → 3 < length (refusal_line number place)
unfolding refusal_line
refusal_more number place = simp length-append (omega arith)

breaches_more : (s : List ℕ) (e : Entry) (es : List Entry) → 3 < length (breach_texts s (e ∷ es))
unfolding breach_texts breach_text head_text caret_text
breaches_more s e es = simp length-append (omega arith)

module _ (domain s : List ℕ) where
  goes_out : {text : List ℕ} → Prints domain s text → text ≡ bytes "ok\n" → MayGoOut domain s
  unfolding list_text
  goes_out (Prints.long_name h) e = absurd (omega (arith, refusal_more 22 0, ap length e))
  goes_out (Prints.unread {number} {place} h a) e = absurd (omega (arith, refusal_more number place, ap length e))
  goes_out (Prints.many h k d l m) e = absurd (omega (arith, refusal_more 70 0, ap length e))
  goes_out (Prints.lists {ts = ts} {es = []} h k d l m) e =
      record { name_fits = h; terms = ts; reading = d; may = nothing_listed ts (length s) (length domain) l }
  goes_out (Prints.lists {es = x ∷ es} h k d l m) e = absurd (omega (arith, breaches_more s x es, ap length e))

  is_ok : MayGoOut domain s → Prints domain s (bytes "ok\n")
  unfolding list_text
  is_ok m =
      Prints.lists {es = []} m.name_fits (omega (arith, m.may.fits)) m.reading (listed_nothing m.terms (length s) (length domain) m.may) (omega arith)

  pub ok_means : OkMeans domain s
  ok_means = ((λ p. goes_out p refl), is_ok)
