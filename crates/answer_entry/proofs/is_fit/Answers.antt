-- `is_fit` meets its contract. From the rules.
use Rattle.answer_entry.proofs.Laws.Rules.{fit_long, fit_room, fit_entry, fit_full}
use Rattle.answer_entry.proofs.is_fit.Goals as goal
use Rattle.answer_entry.proofs.is_fit.Goals.{then-end-gt-MOST_BYTES-via-then-end-gt-MOST_BYTES, then-end-gt-MOST_BYTES-via-else-end-gt-MOST_BYTES+then-room-end, then-end-gt-MOST_BYTES-via-else-end-gt-MOST_BYTES+else-room-end+then-count-ge-MOST_ENTRIES}

pub returns-then-end-gt-MOST_BYTES : goal.returns-then-end-gt-MOST_BYTES
returns-then-end-gt-MOST_BYTES c = elim c.then-end-gt-MOST_BYTES.branch [
  | then-end-gt-MOST_BYTES-via-then-end-gt-MOST_BYTES w ↦ search fit_long
  | then-end-gt-MOST_BYTES-via-else-end-gt-MOST_BYTES+then-room-end w ↦ search fit_room
  | then-end-gt-MOST_BYTES-via-else-end-gt-MOST_BYTES+else-room-end+then-count-ge-MOST_ENTRIES w ↦ search fit_full
]

pub returns : goal.returns
returns c = search fit_entry
