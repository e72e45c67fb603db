-- The readers are steady, however deep, and so a program is decided.
use Rattle.std.proofs.Common.{◌≡◌, ◌≢◌, ◌≤◌, ℕ, zero, suc, length, Result, Ok, Err, refl, subst, arith}
use Rattle.cr_grammar.specs.declared.tree.Tree.{Tree}
use Rattle.cr_grammar.specs.declared.wanted.Wanted.{Wanted}
use Rattle.cr_grammar.specs.declared.wanted.Wanted.TheVariants.{Written, When, Unary, Or, Simple, Stmt, Stmts, Program}
use Rattle.cr_readers.specs.declared.fault.ParseFault.{ParseFault}
use Rattle.cr_readers.specs.declared.fault.ParseFault.TheVariants.{NoMemory}
use Rattle.cr_readers.specs.Reader.{State, Outcome, Found, Failed, Reader}
use Rattle.cr_readers.specs.Cursor.{start_of}
use Rattle.cr_readers.specs.Reads.{Reads}
use Rattle.cr_readers.specs.Goes.{begins_line}
use Rattle.cr_readers.specs.Descent.{reader, read}
use Rattle.cr_descent.specs.Programs.{ProgramIsAnswered}
use Rattle.cr_steady.specs.Steady.{Leaves, Steady}
use Rattle.cr_steady.specs.Laws.{ReadersDecide, ProgramIsDecided}
use Rattle.cr_steady.proofs.Steps.{weak, fewer, nowhere, after, steady_pure, steady_beside}
use Rattle.cr_steady.proofs.Lists.{steady_stmts}
use Rattle.cr_steady.proofs.Claims.{Takes, Given}
use Rattle.cr_steady.proofs.Types.{steady_written}
use Rattle.cr_steady.proofs.Links.{steady_when}
use Rattle.cr_steady.proofs.Operations.{steady_unary, steady_or}
use Rattle.cr_steady.proofs.Statements.{steady_simple, steady_stmt}
use Rattle.cr_steady.proofs.Declarations.{steady_program}

nothing : (rec : Wanted → Reader Tree) (wanted : Wanted) → Takes 0 rec wanted
nothing rec (Written with_arguments) = nowhere 1 (rec (Written with_arguments))
nothing rec (When within free) = nowhere 1 (rec (When within free))
nothing rec (Unary within free) = nowhere 1 (rec (Unary within free))
nothing rec (Or within free) = nowhere 1 (rec (Or within free))
nothing rec (Simple within) = nowhere 1 (rec (Simple within))
nothing rec (Stmt within) = nowhere 1 (rec (Stmt within))
nothing rec (Stmts within) = tt
nothing rec Program = tt

module _ {turns n : ℕ} {rec : Wanted → Reader Tree} (given : Given turns n rec) where
  -- a construct that stands in others, with one more token
  level : (wanted : Wanted) → Takes (suc n) (reader turns rec) wanted
  level (Written with_arguments) = steady_written given with_arguments
  level (When within free) = steady_when given within free
  level (Unary within free) = steady_unary given within free
  level (Or within free) = steady_or given within free
  level (Simple within) = steady_simple given within
  level (Stmt within) = steady_stmt given within
  level (Stmts within) = tt
  level Program = tt

  -- any construct
  whole : (wanted : Wanted) → Steady 0 n (reader turns rec wanted)
  whole (Written with_arguments) = weak (fewer (level (Written with_arguments)))
  whole (When within free) = weak (fewer (level (When within free)))
  whole (Unary within free) = weak (fewer (level (Unary within free)))
  whole (Or within free) = weak (fewer (level (Or within free)))
  whole (Simple within) = weak (fewer (level (Simple within)))
  whole (Stmt within) = weak (fewer (level (Stmt within)))
  whole (Stmts within) = after (steady_stmts (begins_line within) given.most (steady_beside (given.steady (Stmt within)))) (λ list. steady_pure)
  whole Program = steady_program given

inner : (turns deep n : ℕ) → n ≤ turns → n ≤ deep → (wanted : Wanted) → Takes n (read turns deep) wanted
unfolding read
inner turns deep zero most enough wanted = nothing (read turns deep) wanted
inner turns zero (suc n) most enough wanted = absurd (omega (arith, enough))
inner turns (suc deep) (suc n) most enough wanted =
    level {rec = read turns deep} (record { most = omega (arith, most); steady = inner turns deep n (omega (arith, most)) (omega (arith, enough)) }) wanted

steady_read : (turns deep n : ℕ) → n ≤ turns → n ≤ deep → (wanted : Wanted) → Steady 0 n (read turns (suc deep) wanted)
unfolding read
steady_read turns deep n most enough wanted = whole {rec = read turns deep} (record { most = most; steady = inner turns deep n most enough }) wanted

no_failure : (left : ℕ) (o : Outcome Tree) (s : State) → Leaves 0 o left → o ≡ Failed NoMemory s → ⊥
no_failure left o s is e = subst (λ v. Leaves 0 v left) e is

pub readers_decide : ReadersDecide
readers_decide turns zero wanted s s' most deep e = omega (arith, deep)
readers_decide turns (suc n) wanted s s' most deep e =
    no_failure (length s.rest) (read turns (suc n) wanted s) s'
    ((steady_read turns n (suc (length s.rest)) (omega (arith, most)) (omega (arith, deep)) wanted).ends s (omega arith)) e

-- ---- programs

-- what comes out as a reader does
abbrev came : Outcome Tree → Result Tree ParseFault
came (Found x s) = Ok x
came (Failed e s) = Err e

abbrev left_by : Outcome Tree → State
left_by (Found x s) = s
left_by (Failed e s) = s

reads_so : (o : Outcome Tree) → Reads o (came o) (left_by o)
reads_so (Found x s) = refl
reads_so (Failed e s) = λ other. refl

not_came : (o : Outcome Tree) → ((s : State) → o ≢ Failed NoMemory s) → came o ≢ Err NoMemory
not_came (Found x s) never e = absurd cc
not_came (Failed fault s) never e = let is : fault ≡ NoMemory = cc in never s cc

pub program_is_decided : ProgramIsAnswered → ProgramIsDecided
program_is_decided answered list once =
    let turns = suc (length list) in
    let deep = suc (suc (length list)) in
    let o = read turns deep Program (start_of list) in
    (came o, not_came o (λ s. readers_decide turns deep Program (start_of list) s (omega arith) (omega arith)), answered turns deep list (left_by o) (came o) once (reads_so o))
