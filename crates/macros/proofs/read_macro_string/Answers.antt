-- `macros::read_macro_string` meets its contract. From the laws of Reading.
use Rattle.macros.proofs.Laws.Reading.{decided, string_expands, string_label, string_other, string_broken}
use Rattle.macros.proofs.read_macro_string.Goals as goal

pub returns-then-told-2 : goal.returns-then-told-2
returns-then-told-2 c = let v = decided _ _ _ (search string_expands) in record { value = v.0; variant = v.1 }

pub returns-else-told-2 : goal.returns-else-told-2
returns-else-told-2 c = let v = decided _ _ _ (search string_label) in record { value = v.0; variant = v.1 }

pub returns-in-ModifierValue : goal.returns-in-ModifierValue
returns-in-ModifierValue c = let v = decided _ _ _ (search string_other) in record { value = v.0; variant = v.1 }

pub returns-else-told : goal.returns-else-told
returns-else-told c = let v = decided _ _ _ (search string_broken) in record { value = v.0; variant = v.1 }
