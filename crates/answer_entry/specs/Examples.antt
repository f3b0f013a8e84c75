-- The bytes of entries, written by hand from the layout, and what the check of a table answers to them.
use Rattle.std.specs.Prelude.{ℕ, ◌≡◌, refl, List, [], ◌∷◌, ◌++◌, map, replicate, Ok, Err}
use Rattle.text.specs.Bytes.{within, is_upper, is_not_upper, is_visible, lower}
use Rattle.text.specs.Lists.{same, all, grow, split}
use Rattle.text.specs.Texts.{bytes}
use Rattle.domain.specs.Names.{labels, is_label, is_name, is_table_name}
use Rattle.answer_table.specs.Layout.{kind_txt, kind_spf, status_answered, status_failed, status_no_such_name, is_kind, is_status, is_mail_exchange, is_item, lifetime_bytes, body}
use Rattle.answer_table.specs.Reader.{number, first_item, other_items, items_fit_from, items_fit, header_of, name_of, item_bytes, is_entry, is_well, found_of, find_after, find_from, find_in, step_after, step_at, check_after, check_from, check_in, check_table}
use Rattle.answer_table.specs.declared.TableError.TheVariants.{Malformed, Repeated}
use Rattle.answer_entry.specs.Encoding.{two_bytes, four_bytes, entry_bytes}
use Rattle.answer_entry.specs.Appending.{extended}

-- a text of 11 bytes as an item, and a name
abbrev policy : List ℕ
policy = 11 ∷ 0 ∷ bytes "v=spf1 -all"

abbrev name : List ℕ
name = map lower (bytes "Example.COM")

-- a table of that entry
abbrev one : List ℕ
one = extended [] kind_txt status_answered 300 name policy

pub record Cases : Type 0 where
  -- 32 bytes follow the length; kind 16, status 0, a lifetime of 300, which is 44 and 1 times 256, a name of 11 bytes in lower case, the item
  pub text_entry : one ≡ 32 ∷ 0 ∷ 16 ∷ 0 ∷ 0 ∷ 44 ∷ 1 ∷ 0 ∷ 0 ∷ 11 ∷ (bytes "example.com" ++ (11 ∷ 0 ∷ bytes "v=spf1 -all"))
  -- 13 bytes follow the length; no items, and a lifetime all the same: 1, 2 times 256, 3 times 65,536 and 4 times 16,777,216
  pub no_such_name : entry_bytes kind_spf status_no_such_name 67305985 (bytes "a.b.c") [] ≡ 13 ∷ 0 ∷ 99 ∷ 0 ∷ 3 ∷ 1 ∷ 2 ∷ 3 ∷ 4 ∷ 5 ∷ bytes "a.b.c"
  -- the longest lifetime
  pub longest : entry_bytes kind_txt status_failed 4294967295 (bytes "a.b") [] ≡ 11 ∷ 0 ∷ 16 ∷ 0 ∷ 2 ∷ 255 ∷ 255 ∷ 255 ∷ 255 ∷ 3 ∷ bytes "a.b"
  -- 300 bytes follow the length
  pub long_entry : entry_bytes kind_txt status_answered 0 (bytes "a.b") (replicate 289 7)
      ≡ 44 ∷ 1 ∷ 16 ∷ 0 ∷ 0 ∷ 0 ∷ 0 ∷ 0 ∷ 0 ∷ 3 ∷ (bytes "a.b" ++ replicate 289 7)
  -- accepted, and one more of another kind; the same pair again and a name as given aren't
  pub accepted_one : check_table one ≡ Ok 1
  pub accepted_two : check_table (extended one kind_spf status_answered 300 name policy) ≡ Ok 2
  pub same_pair : check_table (extended one kind_txt status_no_such_name 300 name []) ≡ Err (Repeated 34)
  pub upper_case : check_table (extended one kind_txt status_no_such_name 300 (bytes "Example.COM") []) ≡ Err (Malformed 34)

pub cases : Cases
unfolding within is_upper is_not_upper is_visible lower same all grow split labels is_label is_name is_table_name is_kind is_status is_mail_exchange is_item lifetime_bytes body number first_item other_items items_fit_from items_fit header_of name_of item_bytes is_entry is_well found_of find_after find_from find_in step_after step_at check_after check_from check_in two_bytes four_bytes entry_bytes
cases = record {
  text_entry = refl;
  no_such_name = refl;
  longest = refl;
  long_entry = refl;
  accepted_one = refl;
  accepted_two = refl;
  same_pair = refl;
  upper_case = refl;
}
