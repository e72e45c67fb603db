-- Ways to make core trees, in the order of the text.
use Rattle.std.specs.Prelude.{ℕ, List, [], ◌∷◌, true, false}
use Rattle.cr_core.specs.declared.form.Form.{Form}
use Rattle.cr_core.specs.declared.form.Form.TheVariants as f
use Rattle.cr_core.specs.declared.form.ScopeId.{ScopeId}
use Rattle.cr_core.specs.declared.row.Place.{Place}
use Rattle.cr_core.specs.Core.{Core, none, one, ◌⊕◌}
use Rattle.cr_making.specs.Naming.{State, Given}
use Rattle.cr_making.specs.Naming as n

abbrev pub Making : Type 0
Making = State → Given Core

abbrev pub gives : {A : Type 0} → A → State → Given A
gives a s = record { value = a; after = s }

-- a place in the text that is rewritten
abbrev pub placed : State → ℕ → Place
placed s at = record { prelude = s.prelude; at = at }

unfoldable pub nothing : Making
nothing s = gives none s

infixr 60 ◌▸◌
-- one after the other
unfoldable pub ◌▸◌ : Making → Making → Making
(m ▸ k) s = let a = m s in let b = k a.after in gives (a.value ⊕ b.value) b.after

-- one after the other in the text, and the other way round in the core tree
unfoldable pub flipped : Making → Making → Making
flipped m k s = let a = m s in let b = k a.after in gives (b.value ⊕ a.value) b.after

-- a node with these parts
unfoldable pub wrapped : Form → ℕ → Making → Making
wrapped f at m s = let a = m s in gives (one f (placed s at) a.value) a.after

abbrev pub leaf : Form → ℕ → Making
leaf f at = wrapped f at nothing

-- what is made with what a step gives
unfoldable pub using : {A : Type 0} → (State → Given A) → (A → Making) → Making
using step k s = let a = step s in k a.value a.after

-- what is made in a scope of its own, given its number
unfoldable pub scoped : (ScopeId → Making) → Making
scoped k s = let a = n.entered s in let b = k a.value a.after in gives b.value (n.left b.after)

-- the same in a scope that sees none around it
unfoldable pub apart : (ScopeId → Making) → Making
apart k s = let a = n.entered_apart s in let b = k a.value a.after in gives b.value (n.rejoined s b.after)

-- what is made of the prelude
unfoldable pub in_prelude : Making → Making
in_prelude m s = let a = m (record s { prelude = true }) in gives a.value (record a.after { prelude = false })

-- all, one after the other
abbrev pub all : List Making → Making
all [] = nothing
all (m ∷ ms) = m ▸ all ms

-- what goes ahead in a nest: a place, and the parts before the last
pub record Ahead : Type 0 where
  pub at : ℕ
  pub made : Making

abbrev pub ahead : ℕ → Making → Ahead
ahead at m = record { at = at; made = m }

-- f(m1, f(m2, .. last))
abbrev pub nest : Form → List Ahead → Making → Making
nest f [] last = last
nest f (m ∷ ms) last = wrapped f m.at (m.made ▸ nest f ms last)

-- f(f(first, m1), m2) ..
abbrev pub nest_left : Form → ℕ → Making → List Making → Making
nest_left f at first [] = first
nest_left f at first (m ∷ ms) = nest_left f at (wrapped f at (first ▸ m)) ms

-- s1 to sn: Seq(s1, Seq(s2, .. sn)); one alone is itself; none is nil
abbrev pub sequence : ℕ → List Making → Making
sequence at [] = leaf f.Nil at
sequence at (m ∷ []) = m
sequence at (m ∷ ms) = wrapped f.Seq at (m ▸ sequence at ms)
