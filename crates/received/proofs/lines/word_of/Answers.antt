-- `received::lines::word_of` meets its contract.
use Rattle.std.proofs.Common.{arith}
use Rattle.received.specs.Texts.{word_of}
use Rattle.received.proofs.Laws.Lines.{other_word}
use Rattle.received.proofs.lines.word_of.Goals as goal

pub returns-in-0 : goal.returns-in-0
unfolding word_of
returns-in-0 c = rw c.in-0.is

pub returns-in-1 : goal.returns-in-1
unfolding word_of
returns-in-1 c = rw c.in-1.is

pub returns-in-2 : goal.returns-in-2
unfolding word_of
returns-in-2 c = rw c.in-2.is

pub returns-in-3 : goal.returns-in-3
unfolding word_of
returns-in-3 c = rw c.in-3.is

pub returns-in-4 : goal.returns-in-4
unfolding word_of
returns-in-4 c = rw c.in-4.is

pub returns-in-5 : goal.returns-in-5
unfolding word_of
returns-in-5 c = rw c.in-5.is

pub returns-in_default : goal.returns-in_default
returns-in_default c = other_word c.args.res (λ e. omega arith) (λ e. omega arith) (λ e. omega arith) (λ e. omega arith) (λ e. omega arith) (λ e. omega arith)
