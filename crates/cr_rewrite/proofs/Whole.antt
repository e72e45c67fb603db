-- The whole core tree.
use Rattle.std.specs.Global.{Vec}
use Rattle.std.specs.Prelude.{Bool}
use Rattle.std.proofs.Common.{◌≡◌, ℕ, List, [], ◌∷◌, ◌++◌, map, length, true, false, sym, ap, ◌∙◌, subst}
use Rattle.std.proofs.lemmas.List.{length-map}
use Rattle.cr_grammar.specs.declared.tree.Tree.{Tree}
use Rattle.cr_core.specs.declared.form.Form.TheVariants as f
use Rattle.cr_core.specs.declared.row.Event.{Event}
use Rattle.cr_core.specs.declared.row.Event.TheVariants.{Close}
use Rattle.cr_core.specs.declared.row.Row.{Row}
use Rattle.cr_core.specs.Core.{Core, stream}
use Rattle.cr_core.specs.Arena.{rows as rows_of}
use Rattle.cr_making.specs.declared.maker.Maker.{Maker}
use Rattle.cr_making.specs.declared.slots.Slots.{Slots}
use Rattle.cr_making.specs.Naming.{State, state_of, settled}
use Rattle.cr_making.specs.Making.{Making, Ahead, ahead, in_prelude, nest, sequence}
use Rattle.cr_making.specs.Made.{Makes, Nests, Begins, Puts, Turns, closes}
use Rattle.cr_making.specs.Part.{line, members_of, statements_of}
use Rattle.cr_making.specs.Table.{part, parts}
use Rattle.cr_rewrite.specs.Whole.{first_scope, program, begin, made, IsRewriting}
use Rattle.cr_making.proofs.Done.{join_made, wrap_made, prelude_made, nests_none, nests_more, nest_made, made_as, later_events, later_state}

abbrev pub prelude_line : Making → Ahead
prelude_line m = ahead 0 (in_prelude m)

-- a statement of the prelude, ahead of others
pub prelude_one : (x : Tree) {s0 s1 s2 s3 s4 : Maker} → (part x).is_statement ≡ true → Begins f.Seq 0 s0 s1 → Turns true s1 s2 → Makes (part x).own s2 s3 → Turns false s3 s4 → Nests f.Seq (map prelude_line (line (part x).is_statement (part x).own [])) s0 s4
prelude_one x {s0} {s1} {s2} {s3} {s4} is o t a b =
    subst (λ (holds : Bool). Nests f.Seq (map prelude_line (line holds (part x).own [])) s0 s4) (sym is)
    (nests_more [] (prelude_line (part x).own) (nests_none s0) o (prelude_made t a b))

pub prelude_none : (x : Tree) (s : Maker) → (part x).is_statement ≡ false → Nests f.Seq (map prelude_line (line (part x).is_statement (part x).own [])) s s
prelude_none x s is = subst (λ (holds : Bool). Nests f.Seq (map prelude_line (line holds (part x).own [])) s s) (sym is) (nests_none s)

pub whole_made : (p q : Tree) (ps qs : List Tree) (n : ℕ) {s0 s1 s2 s3 s4 s5 s6 s7 s8 s9 : Maker}
    → members_of (parts ps) ≡ (part p).list_members → statements_of (parts ps) ≡ (part p).list_statements → members_of (parts qs) ≡ (part q).list_members → statements_of (parts qs) ≡ (part q).list_statements
    → n ≡ length (statements_of (parts ps))
    → Begins (f.Program first_scope) 0 s0 s1 → Turns true s1 s2 → Makes (members_of (parts ps)) s2 s3 → Turns false s3 s4 → Makes (members_of (parts qs)) s4 s5
    → Nests f.Seq (map prelude_line (statements_of (parts ps))) s5 s6 → Makes (sequence 0 (statements_of (parts qs))) s6 s7 → Puts (closes n) s7 s8 → Puts (Close ∷ []) s8 s9
    → Makes (program (part p) (part q)) s0 s9
unfolding program
whole_made p q ps qs n {s0} {s1} {s2} {s3} {s4} {s5} {s6} {s7} {s8} {s9} pm pt qm qt len o t a u b d e c z =
    let first = prelude_made t (made_as pm a) u in
    let ends = subst (λ (k : ℕ). Puts (closes k) s7 s8) (len ∙ sym (length-map (statements_of (parts ps)) prelude_line)) c in
    let body = nest_made (map prelude_line (statements_of (parts ps))) d (made_as (ap (sequence 0) qt) e) ends in
    let whole = made_as (ap (λ (ms : List Making). nest f.Seq (map prelude_line ms) (sequence 0 (part q).list_statements)) pt) body in
    wrap_made o (join_made first (join_made (made_as qm b) whole)) z

pub rewriting_is : (prelude tree : Tree) (m0 m1 : Maker) (rows : Vec Row) (scopes : Vec Slots) (events : List Event)
    → m0.events.items ≡ [] → state_of m0.naming ≡ begin → Makes (program (part prelude) (part tree)) m0 m1 → events ≡ m1.events.items
    → ((c : Core) → events ≡ stream c → rows.items ≡ rows_of c) → scopes.items ≡ settled m1.naming.inner m1.naming.scopes.items
    → IsRewriting prelude tree (record { names = m1.naming.names; texts = m1.naming.texts; scopes = scopes; rows = rows })
rewriting_is prelude tree m0 m1 rows scopes events empty at a same linked settles =
    let m = program (part prelude) (part tree) in
    let whole = made prelude tree in
    let walk = later_events m _ begin m0.events.items m1.events.items at a.events ∙ ap (λ (es : List Event). es ++ stream whole.value) empty in
    let after = later_state m _ begin (state_of m1.naming) at a.state in
    record {
      rows = linked whole.value (same ∙ walk);
      scopes = settles ∙ ap (λ (s : State). settled s.inner s.scopes) after;
      names = ap (λ (s : State). s.names) after;
      texts = ap (λ (s : State). s.texts) after;
    }
