-- The sentences on the table, an example for each, computed: bytes, and what their check and a lookup in them answer.
use Rattle.std.specs.Prelude.{ℕ, ◌+◌, ◌/◌, ◌%◌, ◌≡◌, refl, List, [], ◌∷◌, ◌++◌, length, replicate, Some, Ok, Err}
use Rattle.text.specs.Bytes.{within, is_upper, is_not_upper, is_visible}
use Rattle.text.specs.Lists.{same, all, grow, split}
use Rattle.text.specs.Texts.{bytes}
use Rattle.domain.specs.Names.{labels, is_label, is_name, is_table_name}
use Rattle.answer_table.specs.Layout.{is_kind, is_status, is_mail_exchange, is_item, lifetime_bytes}
use Rattle.answer_table.specs.Reader.{number, first_item, other_items, items_fit_from, items_fit, header_of, lifetime_at, name_of, item_bytes, is_entry, is_well, found_of, find_after, find_from, find_in, find_at, step_after, step_at, check_after, check_from, check_in, check_table}
use Rattle.answer_table.specs.declared.Layout.TheVariants.{Old}
use Rattle.answer_table.specs.declared.Found.{Found}
use Rattle.answer_table.specs.declared.TableError.TheVariants.{Malformed, Repeated}

-- a 2-byte number, an item, an entry with its lifetime, one of five minutes, and an entry of the layout without lifetimes, as the table writes them
abbrev pub two : ℕ → List ℕ
two n = (n % 256) ∷ (n / 256) ∷ []

abbrev pub item : List ℕ → List ℕ
item d = two (length d) ++ d

abbrev pub lasting : ℕ → ℕ → ℕ → List ℕ → List ℕ → List ℕ
lasting kind status lifetime name items =
    two (8 + (length name + length items))
    ++ (two kind ++ (status ∷ (two (lifetime % 65536) ++ (two (lifetime / 65536) ++ (length name ∷ (name ++ items))))))

abbrev pub entry : ℕ → ℕ → List ℕ → List ℕ → List ℕ
entry kind status name items = lasting kind status 300 name items

abbrev pub old : ℕ → ℕ → List ℕ → List ℕ → List ℕ
old kind status name items = two (4 + (length name + length items)) ++ (two kind ++ (status ∷ length name ∷ (name ++ items)))

-- an address, and an entry of 19 bytes with it
abbrev pub address : List ℕ
address = item (192 ∷ 0 ∷ 2 ∷ 1 ∷ [])

abbrev pub answered : List ℕ
answered = entry 1 0 (bytes "a.b") address

-- A a.b 1.2.3.4 with a lifetime of 67305985, byte after byte
abbrev pub written : List ℕ
written = 17 ∷ 0 ∷ 1 ∷ 0 ∷ 0 ∷ 1 ∷ 2 ∷ 3 ∷ 4 ∷ 3 ∷ 97 ∷ 46 ∷ 98 ∷ 4 ∷ 0 ∷ 1 ∷ 2 ∷ 3 ∷ 4 ∷ []

-- what a lookup finds: the status, the lifetime, and where the items stand
abbrev pub entry_found : ℕ → ℕ → ℕ → ℕ → Found
entry_found status lifetime start end = record { status = status; lifetime = lifetime; start = start; end = end }

pub record Cases : Type 0 where
  -- "an empty table is allowed"
  pub empty : check_table [] ≡ Ok 0
  -- "1-byte status (0 answered, 2 failed, 3 no such name)"; "Status 2 or 3 has no items."
  pub status_0 : check_table answered ≡ Ok 1
  pub status_0_void : check_table (entry 1 0 (bytes "a.b") []) ≡ Ok 1
  pub status_1 : check_table (entry 1 1 (bytes "a.b") []) ≡ Err (Malformed 0)
  pub status_2 : check_table (entry 1 2 (bytes "a.b") []) ≡ Ok 1
  pub status_2_items : check_table (entry 1 2 (bytes "a.b") address) ≡ Err (Malformed 0)
  pub status_3 : check_table (entry 1 3 (bytes "a.b") []) ≡ Ok 1
  pub status_3_items : check_table (entry 1 3 (bytes "a.b") address) ≡ Err (Malformed 0)
  pub status_4 : check_table (entry 1 4 (bytes "a.b") []) ≡ Err (Malformed 0)
  -- "the DNS type asked (1 A, 12 PTR, 15 MX, 16 TXT, 28 AAAA, 99 SPF)"
  pub kind_5 : check_table (entry 5 0 (bytes "a.b") []) ≡ Err (Malformed 0)
  -- "A item 4 bytes; AAAA 16; PTR a name; MX a 2-byte preference and a name or nothing"
  pub address_of_16 : check_table (entry 28 0 (bytes "a.b") address) ≡ Err (Malformed 0)
  pub pointer : check_table (entry 12 0 (bytes "a.b") (item (bytes "c.d"))) ≡ Ok 1
  pub no_pointer : check_table (entry 12 0 (bytes "a.b") (item [])) ≡ Err (Malformed 0)
  pub exchange : check_table (entry 15 0 (bytes "a.b") (item (10 ∷ 0 ∷ bytes "c.d") ++ item (0 ∷ 0 ∷ []))) ≡ Ok 1
  pub no_exchange : check_table (entry 15 0 (bytes "a.b") (item (10 ∷ []))) ≡ Err (Malformed 0)
  -- "TXT and SPF a text of 0 to 4,096 bytes"
  pub empty_text : check_table (entry 16 0 (bytes "a.b") (item [])) ≡ Ok 1
  pub text_4096 : check_table (entry 16 0 (bytes "a.b") (item (replicate 4096 120))) ≡ Ok 1
  pub text_4097 : check_table (entry 16 0 (bytes "a.b") (item (replicate 4097 120))) ≡ Err (Malformed 0)
  -- "in the table no A to Z"
  pub upper_case : check_table (entry 1 0 (bytes "A.b") []) ≡ Err (Malformed 0)
  -- 25 "its place in the table"; 26 "place of the second"; "whichever of 25 and 26 has the earlier place"
  pub second_malformed : check_table (answered ++ entry 1 1 (bytes "a.c") []) ≡ Err (Malformed 19)
  pub second_of_pair : check_table (answered ++ entry 1 3 (bytes "a.b") []) ≡ Err (Repeated 19)
  pub other_kind : check_table (answered ++ entry 28 3 (bytes "a.b") []) ≡ Ok 2
  pub cut_short : check_table (answered ++ (9 ∷ [])) ≡ Err (Malformed 19)
  -- "Every entry gains a 4-byte lifetime in seconds after its status byte": any number, whatever the status
  pub lifetime : check_table written ≡ Ok 1
  pub lifetime_found : find_at written 1 (bytes "a.b") ≡ Some (entry_found 0 67305985 13 19)
  pub lifetime_most : check_table (lasting 1 0 4294967295 (bytes "a.b") address) ≡ Ok 1
  pub lifetime_most_found : find_at (lasting 1 0 4294967295 (bytes "a.b") address) 1 (bytes "a.b") ≡ Some (entry_found 0 4294967295 13 19)
  pub lifetime_failed : find_at (answered ++ lasting 28 2 67305985 (bytes "a.b") []) 28 (bytes "a.b") ≡ Some (entry_found 2 67305985 32 32)
  pub lifetime_no_name : check_table (lasting 1 3 67305985 (bytes "a.b") []) ≡ Ok 1
  -- a length of 9 has room for a name of one byte, one of 8 for none, and one of 7 for no name length
  pub length_9 : check_table (9 ∷ 0 ∷ 1 ∷ 0 ∷ 3 ∷ 0 ∷ 0 ∷ 0 ∷ 0 ∷ 1 ∷ 97 ∷ []) ≡ Ok 1
  pub length_8 : check_table (8 ∷ 0 ∷ 1 ∷ 0 ∷ 3 ∷ 0 ∷ 0 ∷ 0 ∷ 0 ∷ 1 ∷ 97 ∷ []) ≡ Err (Malformed 0)
  pub length_8_no_name : check_table (8 ∷ 0 ∷ 1 ∷ 0 ∷ 3 ∷ 0 ∷ 0 ∷ 0 ∷ 0 ∷ 0 ∷ []) ≡ Err (Malformed 0)
  pub length_7 : check_table (7 ∷ 0 ∷ 1 ∷ 0 ∷ 3 ∷ 0 ∷ 0 ∷ 0 ∷ 0 ∷ []) ≡ Err (Malformed 0)
  -- the layout without lifetimes; an entry of one layout, read as one of the other, is refused here, though not always
  pub old_entry : check_in Old (old 1 0 (bytes "a.b") address) ≡ Ok 1
  pub old_found : find_in Old (old 1 0 (bytes "a.b") address) 1 (bytes "a.b") ≡ Some (entry_found 0 0 9 15)
  pub old_second : check_in Old (old 1 0 (bytes "a.b") address ++ old 1 3 (bytes "a.b") []) ≡ Err (Repeated 15)
  pub old_as_new : check_table (old 1 0 (bytes "a.b") address) ≡ Err (Malformed 0)
  pub new_as_old : check_in Old written ≡ Err (Malformed 0)

pub cases : Cases
unfolding within is_upper is_not_upper is_visible same all grow split labels is_label is_name is_table_name is_kind is_status is_mail_exchange is_item number first_item other_items items_fit_from items_fit lifetime_bytes header_of lifetime_at name_of item_bytes is_entry is_well found_of find_after find_from find_in step_after step_at check_after check_from check_in
cases = record {
  empty = refl;
  status_0 = refl;
  status_0_void = refl;
  status_1 = refl;
  status_2 = refl;
  status_2_items = refl;
  status_3 = refl;
  status_3_items = refl;
  status_4 = refl;
  kind_5 = refl;
  address_of_16 = refl;
  pointer = refl;
  no_pointer = refl;
  exchange = refl;
  no_exchange = refl;
  empty_text = refl;
  text_4096 = refl;
  text_4097 = refl;
  upper_case = refl;
  second_malformed = refl;
  second_of_pair = refl;
  other_kind = refl;
  cut_short = refl;
  lifetime = refl;
  lifetime_found = refl;
  lifetime_most = refl;
  lifetime_most_found = refl;
  lifetime_failed = refl;
  lifetime_no_name = refl;
  length_9 = refl;
  length_8 = refl;
  length_8_no_name = refl;
  length_7 = refl;
  old_entry = refl;
  old_found = refl;
  old_second = refl;
  old_as_new = refl;
  new_as_old = refl;
}
