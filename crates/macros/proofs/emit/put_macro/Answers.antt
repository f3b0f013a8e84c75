-- `macros::emit::put_macro` meets its contract. From the laws of Emitting.
use Rattle.macros.proofs.Laws.Emitting.{macro_written}
use Rattle.macros.proofs.emit.put_macro.Goals as goal

pub returns : goal.returns
returns c = search macro_written
