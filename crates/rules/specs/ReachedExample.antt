-- An evaluation that comes, by an include and then a redirect, to a record outside the grammar: how the check is reached, and what is answered.
use Rattle.std.specs.Prelude.{ℕ, ◌≤◌, ◌≡◌, refl, true, List, [], ◌∷◌, length, take, drop, ltb, Ok}
use Rattle.std.proofs.Common.{arith, sym, subst, ltb-true}
use Rattle.text.specs.Bytes.{within, is_space, is_not_space, is_not_slash, is_upper, is_not_upper, is_alpha, is_digit, is_length_byte, is_alphanumeric, is_hex_digit, is_visible, is_printable, is_label_byte, is_name_byte, is_toplabel_byte, is_macro_literal, is_delimiter, lower}
use Rattle.text.specs.Lists.{same, same_word, contains, all, rightmost, grow, split, separator_before, join_by}
use Rattle.text.specs.Runs.{is_in, run as text-runs-of-run, run_end, trailing_start}
use Rattle.text.specs.Texts.{bytes}
use Rattle.domain.specs.Names.{labels, is_label, is_name, is_table_name, label_count, at_or_below}
use Rattle.domain.specs.Normal.{without_dot, lowered, normal}
use Rattle.domain.specs.Shortening.{shorter_labels, shortened}
use Rattle.macros.specs.Expansion.{piece_text, text_of as macros-expansion-of-textOf}
use Rattle.macros.specs.Question.{question_name}
use Rattle.macros.specs.Reader.{is_literal, piece_of, pieces_after, pieces_from, pieces, ends_in_macro, is_toplabel, last_label, ends_in_label, ends_right, is_macro_string, is_p, any_p, uses_p}
use Rattle.records.specs.Grammar.{is_qualifier, is_reserved, Record}
use Rattle.records.specs.Numbers.{said_of}
use Rattle.records.specs.Reader.{later_kind, kind_of, spec_at, all_of, with_spec, mechanism_by, mechanism_of, modifier_of as records-reader-of-modifierOf, token_of, token_answer, term_from, read_term, is_redirect, is_explanation, check_after, check_from, has_version, read_record, Reads, stop, step}
use Rattle.records.specs.Readings.{Placed}
use Rattle.records.specs.Answers.{most_bytes}
use Rattle.records.proofs.Laws.Versions.{version_of}
use Rattle.records.proofs.Laws.Records.{record_sound, record_complete, reads_one}
use Rattle.rules.specs.Evaluation.{include_match, check_target, begun_check, include_of, include_step, having, mechanism_step, term_step, modifier_of, none_is_permerror, redirect_of, no_match, after_step, try_terms, terms_after, terms_from, terms_of, read_outcome, versioned, selection, text_reply, record_lookup, after_lookup, check_name, check, evaluation, explanation_of, verdict, no_counts}
use Rattle.rules.specs.Mechanisms.{expansion, gives_expansion, expanded, gives_name, target, counting}
use Rattle.rules.specs.Tree.{Has, bind, then, answered, sooner, run, items}
use Rattle.rules.specs.Reached.{none, first, Selects, only, past_term, by_include, by_redirect, Reaches, here, below, Outside, unproduced}
use Rattle.rules.specs.Zones.{Row, zone, aside, txt, mail, answer, decided}

-- example.com includes b.example, which redirects to c.example, whose record is outside the grammar; what stands after the include isn't tried
abbrev pub rows : List Row
rows = txt (bytes "example.com") (bytes "v=spf1 include:b.example -all") ∷ txt (bytes "b.example") (bytes "v=spf1 redirect=c.example")
    ∷ txt (bytes "c.example") (bytes "v=spf1 moo") ∷ []

-- a text that is read whole is a record with the terms that are read
made : (s : List ℕ) (ts : List Placed) → length s ≤ most_bytes → read_record s ≡ Ok 6 → Reads s 6 ts → Record s ts
made s ts h e w =
    let d = record_sound s 6 e in
    subst (Record s) (sym (reads_one w (record_complete d.1 h).walk)) d.1

-- the text of an owner that has a single one
selected : (d s : List ℕ) → ltb 1 (label_count d) ≡ true → Has (zone rows) 16 d (items (s ∷ [])) → has_version s ≡ true
    → Selects (zone rows) d s
selected d s l q v = only (ltb-true 1 (label_count d) l) q (first (take 6 s, drop 6 s, version_of s v) none)

pub record ReachedCase : Type 0 where
  -- c.example is reached with two lookups begun
  pub reached : Reaches (zone rows) mail (normal (bytes "example.com")) no_counts (bytes "c.example") (record { lookups = 2; voids = 0 })
  pub selects : Selects (zone rows) (bytes "c.example") (bytes "v=spf1 moo")
  pub outside : Outside (bytes "v=spf1 moo")
  -- permerror with those counts, as `verdict_never_evaluated` says (proofs/Laws/Reached.antt)
  pub answered : answer rows ≡ decided 6 2 0

pub reached_case : ReachedCase
unfolding zone answer within is_space is_not_space is_not_slash is_upper is_not_upper is_alpha is_digit is_length_byte is_alphanumeric is_hex_digit is_visible is_printable is_label_byte is_name_byte is_toplabel_byte is_macro_literal is_delimiter lower same same_word contains all rightmost grow split is_in text-runs-of-run run_end trailing_start labels is_label is_name is_table_name label_count at_or_below without_dot lowered normal shorter_labels shortened separator_before join_by piece_text macros-expansion-of-textOf question_name is_literal piece_of pieces_after pieces_from pieces ends_in_macro is_toplabel last_label ends_in_label ends_right is_macro_string is_p any_p uses_p is_qualifier is_reserved said_of later_kind kind_of spec_at all_of with_spec mechanism_by mechanism_of records-reader-of-modifierOf token_of token_answer term_from read_term is_redirect is_explanation check_after check_from has_version read_record include_match check_target begun_check include_of include_step having mechanism_step term_step modifier_of none_is_permerror redirect_of no_match after_step try_terms terms_after terms_from terms_of read_outcome versioned selection text_reply record_lookup after_lookup check_name check evaluation explanation_of verdict expansion gives_expansion expanded gives_name target counting bind then answered sooner run aside
reached_case = record {
  reached =
      below (selected (bytes "example.com") _ refl (300, refl) refl) (omega arith) (made _ _ (omega arith) refl (step refl (step refl (stop refl))))
      (by_include {c = no_counts} refl refl refl (omega arith) (λ l. (l, refl)))
      (below (selected (bytes "b.example") _ refl (300, refl) refl) (omega arith) (made _ _ (omega arith) refl (step refl (stop refl)))
      (past_term (λ l. (l, refl)) (by_redirect {c = record { lookups = 1; voids = 0 }} refl (omega arith) (λ l. (l, refl)))) here);
  selects = selected (bytes "c.example") _ refl (300, refl) refl;
  outside = unproduced (λ ts r. let a = (record_complete r (omega arith)).accepted in let z : ◌≡◌ {A = ℕ} 0 1 = cc in omega arith);
  answered = refl;
}
