-- A redex in one part of a node is the node's, and what takes its place is put there.
use Rattle.std.proofs.Common.{◌≡◌, ℕ, zero, suc, true, false, Some, None, refl, ap, ◌∙◌}
use Rattle.std.specs.Prelude.{if◌then◌else◌, is_some}
use Rattle.cr_base.specs.declared.ids.NodeId.{NodeId}
use Rattle.cr_core.specs.declared.form.Form.{Form}
use Rattle.cr_meaning.specs.Term.{Term, Terms, Node, none, part}
use Rattle.cr_meaning.specs.Redex.{skipped, last_reduced, is_clause, count, or_else, unless_clause, redex, redex_among, put, put_among, Exit, Jump, Outwards, Ends, Barred, inside, jump, jump_among}
use Rattle.cr_stack.specs.Layers.{join}

-- the next part is looked at, and those before it have no redex
abbrev pub Behind : ℕ → ℕ → Terms → Type 0
Behind zero zero ts = ⊥
Behind (suc from) zero ts = ⊥
Behind zero (suc until) none = Unit {0}
Behind (suc from) (suc until) none = ⊥
Behind zero (suc until) (part t ts) = (redex t ≡ None) × Behind zero until ts
Behind (suc from) (suc until) (part t ts) = Behind from until ts

-- those that are looked at have no redex
abbrev pub Past : ℕ → ℕ → Terms → Type 0
Past zero zero ts = Unit {0}
Past (suc from) zero ts = Unit {0}
Past zero (suc until) none = Unit {0}
Past (suc from) (suc until) none = Unit {0}
Past zero (suc until) (part t ts) = (redex t ≡ None) × Past zero until ts
Past (suc from) (suc until) (part t ts) = Past from until ts

sees_among : (from until : ℕ) (before after : Terms) (t u : Term) → Behind from until before → redex t ≡ Some u → redex_among from until (join before (part t after)) ≡ Some u
sees_among zero zero before after t u h e = absurd h
sees_among (suc from) zero before after t u h e = absurd h
sees_among zero (suc until) none after t u h e = ap (λ o. or_else o (redex_among zero until after)) e
sees_among (suc from) (suc until) none after t u h e = absurd h
sees_among zero (suc until) (part s ts) after t u h e =
    ap (λ o. or_else o (redex_among zero until (join ts (part t after)))) h.0 ∙ sees_among zero until ts after t u h.1 e
sees_among (suc from) (suc until) (part s ts) after t u h e = sees_among from until ts after t u h e

puts_among : (new : Term) (from until : ℕ) (before after : Terms) (t u : Term) → Behind from until before → redex t ≡ Some u → put_among new from until (join before (part t after)) ≡ join before (part (put new t) after)
puts_among new zero zero before after t u h e = absurd h
puts_among new (suc from) zero before after t u h e = absurd h
puts_among new zero (suc until) none after t u h e =
    ap (λ o. if is_some o then part (put new t) after else part t (put_among new zero until after)) e
puts_among new (suc from) (suc until) none after t u h e = absurd h
puts_among new zero (suc until) (part s ts) after t u h e =
    ap (λ o. if is_some o then part (put new s) (join ts (part t after)) else part s (put_among new zero until (join ts (part t after)))) h.0
    ∙ ap (part s) (puts_among new zero until ts after t u h.1 e)
puts_among new (suc from) (suc until) (part s ts) after t u h e = ap (part s) (puts_among new from until ts after t u h e)

jumps_among : (e : Exit) (whole : Terms → Term) (from until : ℕ) (before after : Terms) (t u : Term) → Behind from until before → redex t ≡ Some u → jump_among e whole from until (join before (part t after)) ≡ inside (λ x. whole (join before (part x after))) (jump e t)
jumps_among e whole zero zero before after t u h q = absurd h
jumps_among e whole (suc from) zero before after t u h q = absurd h
jumps_among e whole zero (suc until) none after t u h q =
    ap (λ o. if is_some o then inside (λ x. whole (part x after)) (jump e t) else jump_among e (λ us. whole (part t us)) zero until after) q
jumps_among e whole (suc from) (suc until) none after t u h q = absurd h
jumps_among e whole zero (suc until) (part s ts) after t u h q =
    ap (λ o. if is_some o then inside (λ x. whole (part x (join ts (part t after)))) (jump e s) else jump_among e (λ us. whole (part s us)) zero until (join ts (part t after))) h.0
    ∙ jumps_among e (λ us. whole (part s us)) zero until ts after t u h.1 q
jumps_among e whole (suc from) (suc until) (part s ts) after t u h q = jumps_among e (λ us. whole (part s us)) from until ts after t u h q

none_among : (from until : ℕ) (ts : Terms) → Past from until ts → redex_among from until ts ≡ None
none_among zero zero none h = refl
none_among zero zero (part t ts) h = refl
none_among (suc from) zero none h = refl
none_among (suc from) zero (part t ts) h = refl
none_among zero (suc until) none h = refl
none_among (suc from) (suc until) none h = refl
none_among zero (suc until) (part t ts) h = ap (λ o. or_else o (redex_among zero until ts)) h.0 ∙ none_among zero until ts h.1
none_among (suc from) (suc until) (part t ts) h = none_among from until ts h

outwards_among : (e : Exit) (whole : Terms → Term) (from until : ℕ) (ts : Terms) → Past from until ts → jump_among e whole from until ts ≡ Outwards
outwards_among e whole zero zero none h = refl
outwards_among e whole zero zero (part t ts) h = refl
outwards_among e whole (suc from) zero none h = refl
outwards_among e whole (suc from) zero (part t ts) h = refl
outwards_among e whole zero (suc until) none h = refl
outwards_among e whole (suc from) (suc until) none h = refl
outwards_among e whole zero (suc until) (part t ts) h =
    ap (λ o. if is_some o then inside (λ u. whole (part u ts)) (jump e t) else jump_among e (λ us. whole (part t us)) zero until ts) h.0
    ∙ outwards_among e (λ us. whole (part t us)) zero until ts h.1
outwards_among e whole (suc from) (suc until) (part t ts) h = outwards_among e (λ us. whole (part t us)) from until ts h

-- What surrounds a redex and shows it: the redex is the whole's, what takes its place is put inside, and a jump comes through.
pub record Shows (w : Term → Term) : Type 0 where
  pub sees : (t u : Term) → redex t ≡ Some u → redex (w t) ≡ Some u
  pub puts : (new t u : Term) → redex t ≡ Some u → put new (w t) ≡ w (put new t)
  pub jumps : (e : Exit) (t u : Term) → redex t ≡ Some u → jump e (w t) ≡ inside w (jump e t)

pub node_shows : (n : NodeId) (form : Form) (k : ℕ) (before after : Terms) → ((t : Term) → last_reduced form (count (join before (part t after))) ≡ k) → Behind (skipped form) k before → Shows (λ t. Node n form (join before (part t after)))
node_shows n form k before after c h = record {
  sees = λ t u e.
      ap (λ j. or_else (redex_among (skipped form) j (join before (part t after))) (unless_clause (is_clause form) (Node n form (join before (part t after))))) (c t)
      ∙ ap (λ o. or_else o (unless_clause (is_clause form) (Node n form (join before (part t after))))) (sees_among (skipped form) k before after t u h e);
  puts = λ new t u e.
      ap (λ j. if is_some (redex_among (skipped form) j (join before (part t after))) then Node n form (put_among new (skipped form) j (join before (part t after))) else new) (c t)
      ∙ ap (λ o. if is_some o then Node n form (put_among new (skipped form) k (join before (part t after))) else new) (sees_among (skipped form) k before after t u h e)
      ∙ ap (Node n form) (puts_among new (skipped form) k before after t u h e);
  jumps = λ e t u q.
      ap (λ j. jump_among e (Node n form) (skipped form) j (join before (part t after))) (c t)
      ∙ jumps_among e (Node n form) (skipped form) k before after t u h q;
}

inside_both : (f g : Term → Term) (j : Jump) → inside f (inside g j) ≡ inside (λ t. f (g t)) j
inside_both f g Outwards = refl
inside_both f g (Ends leaves t) = refl
inside_both f g Barred = refl

pub both_show : (f g : Term → Term) → Shows f → Shows g → Shows (λ t. f (g t))
both_show f g F G = record {
  sees = λ t u e. F.sees (g t) u (G.sees t u e);
  puts = λ new t u e. F.puts new (g t) u (G.sees t u e) ∙ ap f (G.puts new t u e);
  jumps = λ e t u q. F.jumps e (g t) u (G.sees t u q) ∙ ap (inside f) (G.jumps e t u q) ∙ inside_both f g (jump e t);
}

-- A term that is its own redex: any other takes its place whole, and a jump goes on outwards from it.
pub record IsRedex (t : Term) : Type 0 where
  pub is : redex t ≡ Some t
  pub put_is : (new : Term) → put new t ≡ new
  pub jump_is : (e : Exit) → jump e t ≡ Outwards

pub node_is_redex : (n : NodeId) (form : Form) (k : ℕ) (ps : Terms) → last_reduced form (count ps) ≡ k → Past (skipped form) k ps → is_clause form ≡ false → IsRedex (Node n form ps)
node_is_redex n form k ps c h plain = record {
  is =
      ap (λ j. or_else (redex_among (skipped form) j ps) (unless_clause (is_clause form) (Node n form ps))) c
      ∙ ap (λ o. or_else o (unless_clause (is_clause form) (Node n form ps))) (none_among (skipped form) k ps h)
      ∙ ap (λ b. unless_clause b (Node n form ps)) plain;
  put_is = λ new.
      ap (λ j. if is_some (redex_among (skipped form) j ps) then Node n form (put_among new (skipped form) j ps) else new) c
      ∙ ap (λ o. if is_some o then Node n form (put_among new (skipped form) k ps) else new) (none_among (skipped form) k ps h);
  jump_is = λ e.
      ap (λ j. jump_among e (Node n form) (skipped form) j ps) c ∙ outwards_among e (Node n form) (skipped form) k ps h;
}

pub clause_has_none : (n : NodeId) (form : Form) (k : ℕ) (ps : Terms) → last_reduced form (count ps) ≡ k → Past (skipped form) k ps → is_clause form ≡ true → redex (Node n form ps) ≡ None
clause_has_none n form k ps c h clause =
    ap (λ j. or_else (redex_among (skipped form) j ps) (unless_clause (is_clause form) (Node n form ps))) c
    ∙ ap (λ o. or_else o (unless_clause (is_clause form) (Node n form ps))) (none_among (skipped form) k ps h)
    ∙ ap (λ b. unless_clause b (Node n form ps)) clause
