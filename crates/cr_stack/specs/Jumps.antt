-- Where a jump comes to in a stack.
use Rattle.std.specs.Prelude.{◌≡◌, ◌⊎◌, ℕ, Bool, true, false, List, [], ◌∷◌, ◌++◌, length}
use Rattle.cr_value.specs.declared.value.Value.{Value}
use Rattle.cr_value.specs.declared.value.Value.TheVariants.{Nil}
use Rattle.cr_meaning.specs.World.{World}
use Rattle.cr_meaning.specs.Redex as m
use Rattle.cr_stack.specs.declared.around.Around.{Around}
use Rattle.cr_stack.specs.declared.around.Around.TheVariants as a
use Rattle.cr_stack.specs.declared.around.Now.{Now}
use Rattle.cr_stack.specs.declared.around.Now.TheVariants as now
use Rattle.cr_stack.specs.declared.jumping.Exit.{Exit}
use Rattle.cr_stack.specs.declared.jumping.Exit.TheVariants as x
use Rattle.cr_stack.specs.declared.jumping.Jumped.{Jumped}
use Rattle.cr_stack.specs.declared.jumping.Jumped.TheVariants as j
use Rattle.cr_stack.specs.declared.jumping.Fate.{Fate}
use Rattle.cr_stack.specs.declared.jumping.Fate.TheVariants as f
use Rattle.cr_stack.specs.Layers.{Layers, term}
use Rattle.cr_stack.specs.Steps.{finished}

abbrev pub exit_of : Exit → m.Exit
exit_of x.Again = m.ByAgain
exit_of x.Break = m.ByBreak
exit_of (x.Next v) = m.ByNext v
exit_of (x.Return v) = m.ByReturn v

-- The jump in the one stack's term comes to what is told, and the other stack's term is the one then.
abbrev pub JumpsTo : World → Exit → Layers → Jumped → Layers → Type 0
JumpsTo P e old j.Outwards new = (m.jump (exit_of e) (term P old) ≡ m.Outwards) × (new.around ≡ old.around) × (new.focus ≡ old.focus)
JumpsTo P e old (j.Ends leaves) new = m.jump (exit_of e) (term P old) ≡ m.Ends leaves (term P new)
JumpsTo P e old j.Barred new = (m.jump (exit_of e) (term P old) ≡ m.Barred) × (new.around ≡ old.around) × (new.focus ≡ old.focus)

-- ---- inside

-- whether a layer lets a jump through
abbrev pub lets_through : Around → Exit → Bool
lets_through (a.Part n vs) e = true
lets_through (a.Choice n vss vs) e = true
lets_through (a.Turn n) (x.Return v) = true
lets_through (a.Turn n) x.Again = false
lets_through (a.Turn n) x.Break = false
lets_through (a.Turn n) (x.Next v) = false
lets_through (a.Frame gives) e = false
lets_through a.Body e = false

abbrev pub AllLet : Exit → List Around → Type 0
AllLet e [] = Unit {0}
AllLet e (k ∷ ks) = (lets_through k e ≡ true) × AllLet e ks

-- the innermost layer that does not stands at this place
pub record Stopped (ks : List Around) (e : Exit) (at : ℕ) : Type 0 where
  pub below : List Around
  pub it : Around
  pub above : List Around
  pub split : ks ≡ below ++ it ∷ above
  pub place : length below ≡ at
  pub stops : lets_through it e ≡ false
  pub rest : AllLet e above

-- what such a layer makes of the jump
abbrev pub fate : Around → Exit → Fate
fate (a.Turn n) x.Again = f.Begins n
fate (a.Turn n) (x.Next v) = f.Begins n
fate (a.Turn n) x.Break = f.Gives false
fate (a.Frame gives) (x.Return v) = f.Gives true
fate a.Body (x.Next v) = f.Gives true
fate k e = f.Bars

-- the value that comes with a jump
abbrev pub given : Exit → Value
given x.Again = Nil
given x.Break = Nil
given (x.Next v) = v
given (x.Return v) = v

-- the layers and the part afterwards, by the fate at this layer with those below it
abbrev pub Lands : List Around → Now → Exit → List Around → Around → Fate → List Around → Now → Jumped → Type 0
Lands ks n e below k f.Bars ls m told = (ls ≡ ks) × (m ≡ n) × (told ≡ j.Barred)
Lands ks n e below k (f.Begins node) ls m told = (ls ≡ below ++ k ∷ []) × (m ≡ now.Node node) × (told ≡ j.Ends false)
Lands ks n e below k (f.Gives leaves) ls m told = (ls ≡ below) × (m ≡ finished k (now.Value (given e))) × (told ≡ j.Ends leaves)

pub record Stops (ks : List Around) (n : Now) (e : Exit) (ls : List Around) (m : Now) (told : Jumped) : Type 0 where
  pub at : ℕ
  pub stopped : Stopped ks e at
  pub lands : Lands ks n e stopped.below stopped.it (fate stopped.it e) ls m told

pub record Passes (ks : List Around) (n : Now) (e : Exit) (ls : List Around) (m : Now) (told : Jumped) : Type 0 where
  pub all : AllLet e ks
  pub around : ls ≡ ks
  pub focus : m ≡ n
  pub told_is : told ≡ j.Outwards

abbrev pub Comes : List Around → Now → Exit → List Around → Now → Jumped → Type 0
Comes ks n e ls m told = Passes ks n e ls m told ⊎ Stops ks n e ls m told

-- how many calls it left
abbrev pub left_frames : Bool → Jumped → ℕ
left_frames true (j.Ends leaves) = 1
left_frames false (j.Ends leaves) = 0
left_frames returns j.Outwards = 0
left_frames returns j.Barred = 0

abbrev pub returns : Exit → Bool
returns (x.Return v) = true
returns x.Again = false
returns x.Break = false
returns (x.Next v) = false
