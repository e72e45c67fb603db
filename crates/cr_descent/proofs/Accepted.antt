-- A program within the limits is refused nowhere, and a list has one first unexpected token.
use Rattle.std.proofs.Common.{◌≡◌, ◌≤◌, ◌<◌, ℕ, List, [], ◌∷◌, ◌++◌, Ok, Err, Result, ◌⊎◌, inl, inr, refl, sym, ap, subst, ◌∙◌, append_assoc, arith}
use Rattle.cr_syntax.specs.declared.token.Token.{Token}
use Rattle.cr_grammar.specs.Count.{nodes, nesting}
use Rattle.cr_grammar.specs.declared.tree.Tree.{Tree}
use Rattle.cr_grammar.specs.declared.wanted.Wanted.{Wanted}
use Rattle.cr_grammar.specs.declared.wanted.Wanted.TheVariants.{Program}
use Rattle.cr_grammar.specs.Grammar.{Spells}
use Rattle.cr_readers.specs.declared.fault.ParseFault.TheVariants.{Unexpected, TooDeep, TooManyNodes, NoMemory}
use Rattle.cr_exact.specs.Exact.{head}
use Rattle.cr_readers.specs.Reader.{max_nesting, max_nodes, place_at}
use Rattle.cr_descent.specs.Laws.{AtMostOneTree, IsFirstUnexpected}
use Rattle.cr_descent.specs.LimitLaws.{HasNoWay}
use Rattle.cr_descent.specs.Programs.{IsProgram, ProgramIsAccepted, AtMostOneUnexpected}

-- what is spelled by the whole list is spelled by its parts
in_parts : (list front rest : List Token) (x : Tree) → list ≡ front ++ rest → Spells Program list x → Spells Program (front ++ rest) x
in_parts list front rest x parts c = subst (λ (v : List Token). Spells Program v x) parts c

-- a way within the limit is a way
no_limit : (most : ℕ) (much : Tree → ℕ) (list : List Token) (place : ℕ) (x : Tree) → HasNoWay Program most much list place → Spells Program list x → much x ≤ most → ⊥
no_limit most much list place x h c below =
    let past : most < much x = h.beyond h.rest x (λ _. refl) (in_parts list h.front h.rest x h.parts c) in omega arith

pub program_is_accepted : AtMostOneTree → ProgramIsAccepted
program_is_accepted one list x (Ok y) answer is = one Program list y x answer.spelled is.spelled
program_is_accepted one list x (Err (Unexpected place)) answer is = absurd (answer.dead answer.rest x refl (in_parts list answer.front answer.rest x answer.parts is.spelled))
program_is_accepted one list x (Err (TooDeep place)) answer is = absurd (no_limit max_nesting nesting list place x answer is.spelled is.nested)
program_is_accepted one list x (Err (TooManyNodes place)) answer is = absurd (no_limit max_nodes nodes list place x answer is.spelled is.few)
program_is_accepted one list x (Err NoMemory) answer is = refl

-- The front a is the front b and more: t and u, which stand before its rest in the rest of b.
record Longer (a r b s : List Token) : Type 0 where
  first : Token
  others : List Token
  fronts : a ≡ b ++ first ∷ others
  rests : s ≡ first ∷ (others ++ r)

longer_by : (t u : Token) (a r b s : List Token) → t ≡ u → Longer a r b s → Longer (t ∷ a) r (u ∷ b) s
longer_by t u a r b s e h = record { first = h.first; others = h.others; fronts = λ i. e i ∷ h.fronts i; rests = h.rests }

-- two fronts of one list: the same, or one is longer
compared : (a r b s : List Token) → a ++ r ≡ b ++ s → (r ≡ s) ⊎ (Longer a r b s ⊎ Longer b s a r)
compared [] r [] s e = inl e
compared [] r (u ∷ b) s e = inr (inr (record { first = u; others = b; fronts = refl; rests = e }))
compared (t ∷ a) r [] s e = inr (inl (record { first = t; others = a; fronts = refl; rests = sym e }))
compared (t ∷ a) r (u ∷ b) s e =
    let same : t ≡ u = cc in
    let behind : a ++ r ≡ b ++ s = cc in
    elim (compared a r b s behind) [
      | inl rests ↦ inl rests
      | inr (inl more) ↦ inr (inl (longer_by t u a r b s same more))
      | inr (inr more) ↦ inr (inr (longer_by u t b s a r (sym same) more))
    ]

-- a longer front goes on where the shorter is dead
not_longer : (wanted : Wanted) (list : List Token) (p q : ℕ) (x : IsFirstUnexpected wanted list p) (y : IsFirstUnexpected wanted list q) → Longer x.front x.rest y.front y.rest → ⊥
not_longer wanted list p q x y h =
    let more = h.first ∷ (h.others ++ x.more) in
    let same : x.front ++ x.more ≡ y.front ++ more = ap (λ (v : List Token). v ++ x.more) h.fronts ∙ append_assoc y.front (h.first ∷ h.others) x.more in
    y.dead more x.value (sym (ap head h.rests)) (subst (λ (v : List Token). Spells wanted v x.value) same x.alive)

pub one_unexpected : AtMostOneUnexpected
one_unexpected wanted list p q x y =
    elim (compared x.front x.rest y.front y.rest (sym x.parts ∙ y.parts)) [
      | inl rests ↦ x.at_rest ∙ ap place_at rests ∙ sym y.at_rest
      | inr (inl more) ↦ absurd (not_longer wanted list p q x y more)
      | inr (inr more) ↦ absurd (not_longer wanted list q p y x more)
    ]
