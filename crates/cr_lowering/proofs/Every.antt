-- Whatever the tree, what is made of it is well formed.
use Rattle.std.proofs.Common.{◌≡◌, ℕ, Bool, true, false, List, [], ◌∷◌, map, Some, None, refl, sym, ap, ◌∙◌, subst}
use Rattle.std.proofs.lemmas.Bool.{false≢true}
use Rattle.cr_grammar.specs.declared.tree.Tree.{Tree, map-Tree, fold-roll-Tree, ind-Tree}
use Rattle.cr_grammar.specs.declared.tree.Tree.TheOpen.{Tree-F}
use Rattle.cr_core.specs.declared.form.Form.{Form}
use Rattle.cr_core.specs.declared.form.Form.TheVariants as f
use Rattle.cr_core.specs.declared.form.Local.{Local}
use Rattle.cr_core.specs.Shape as sh
use Rattle.cr_making.specs.Making.{Making, nothing, ◌▸◌, wrapped, leaf, using, all, Ahead}
use Rattle.cr_making.specs.Part.{Part, Head, NoHead, union}
use Rattle.cr_making.specs.Terms as t
use Rattle.cr_making.specs.Table.{part, part_level, parts, nils}
use Rattle.cr_lowering.proofs.Good.{Good, Always, always_keeps, good_none, good_no_pairs, good_one_many, good_nil, keeps_local, Sees, Goods, Term}
use Rattle.cr_lowering.proofs.Inside.{GoodParameters, no_parameters_made}
use Rattle.cr_lowering.proofs.Goods as g
use Rattle.cr_lowering.proofs.Goods.{IsStill, MaybeGood, GoodHead, Two, Members, GoodPart, AllGood, OneGood, ListGood, leaf_good}
use Rattle.cr_lowering.proofs.More as more

-- ---- types leave the innermost scope as it is

still_nothing : IsStill nothing
unfolding nothing
still_nothing = record { still = λ s. refl }

still_join : (m k : Making) → IsStill m → IsStill k → IsStill (m ▸ k)
unfolding ◌▸◌
still_join m k x y = record { still = λ s. y.still (m s).after ∙ x.still s }

abbrev AllStill : List Making → Type 0
AllStill [] = Unit {0}
AllStill (m ∷ ms) = IsStill m × AllStill ms

still_all : (ms : List Making) → AllStill ms → IsStill (all ms)
still_all [] h = still_nothing
still_all (m ∷ ms) h = still_join m (all ms) h.0 (still_all ms h.1)

still_union : (at : ℕ) (p : Part) → IsStill p.atoms → IsStill (union at p)
unfolding wrapped
still_union at p h = record { still = λ s. h.still s }

atoms_still : (ps : List Part) → AllGood ps → AllStill (map (λ (p : Part). p.atoms) ps)
atoms_still [] h = tt
atoms_still (p ∷ ps) h = (h.0.still, atoms_still ps h.1)

unions_still : (at : ℕ) (ps : List Part) → AllGood ps → AllStill (map (union at) ps)
unions_still at [] h = tt
unions_still at (p ∷ ps) h = (still_union at p h.0.still, unions_still at ps h.1)

atom_still : (at : ℕ) (path : List (List ℕ)) (ps : List Part) → AllGood ps → IsStill (t.atom at path ps)
unfolding t.atom using wrapped
atom_still at path ps h = record { still = λ s. (still_all (map (union at) ps) (unions_still at ps h)).still _ }

-- ---- constructs

abbrev IsGood : Tree → Type 0
IsGood x = GoodPart (part x)

abbrev Known : Type 0
Known = (x : Tree) × IsGood x

abbrev tree_of : Known → Tree
tree_of e = e.0

all_good : (es : List Known) → AllGood (parts (map tree_of es))
all_good [] = tt
all_good (e ∷ es) = (e.1, all_good es)

never : {A : Type 0} → false ≡ true → A
never e = absurd (false≢true e)

-- what is made of a construct that has no place
abbrev plain : Part
plain = record {
  own = leaf f.Nil 0;
  is_statement = true;
  members = nothing;
  atoms = nothing;
  class = t.nil_atom 0;
  parameter = nothing;
  fields = nothing;
  is_field = false;
  kept = nothing;
  block = λ at. t.block at [] [];
  branch = nils;
  arm = λ get. nils;
  clause = nothing;
  pair = nothing;
  pair_types = λ at. t.no_unions at;
  accessor = λ is_property. nothing;
  head = NoHead;
  list_members = nothing;
  list_statements = [];
}

plain_good : GoodPart plain
plain_good = record {
  own = good_nil Always 0;
  members = good_none Always sh.Member;
  atoms = good_none Always sh.Atom;
  still = still_nothing;
  class = g.nil_atom_good 0;
  parameter = no_parameters_made;
  fields = good_none Always sh.Member;
  kept = never;
  block = λ at. g.block_good at [] [] tt tt;
  branch = more.nils_good Always always_keeps;
  arm = λ l. more.nils_good (Sees l) (keeps_local l);
  clause = good_none Always sh.Clause;
  pair = good_no_pairs Always sh.Term;
  pair_types = g.no_unions_good;
  accessor = λ is_property. good_none Always sh.Member;
  head = tt;
  list_members = good_none Always sh.Member;
  list_statements = tt;
}

-- a term, and no other part of a construct
term : (m : Making) (h : Head) → Good Always Term m → GoodHead h → GoodPart (record plain { own = m; head = h })
term m h x y = record { own = x; members = plain_good.members; atoms = plain_good.atoms; still = plain_good.still; class = plain_good.class; parameter = plain_good.parameter; fields = plain_good.fields; kept = plain_good.kept; block = plain_good.block; branch = plain_good.branch; arm = plain_good.arm; clause = plain_good.clause; pair = plain_good.pair; pair_types = plain_good.pair_types; accessor = plain_good.accessor; head = y; list_members = plain_good.list_members; list_statements = plain_good.list_statements }

-- a declaration
member : (m : Making) → Good Always Members m → GoodPart (record plain { is_statement = false; members = m })
member m x = record { own = plain_good.own; members = x; atoms = plain_good.atoms; still = plain_good.still; class = plain_good.class; parameter = plain_good.parameter; fields = plain_good.fields; kept = plain_good.kept; block = plain_good.block; branch = plain_good.branch; arm = plain_good.arm; clause = plain_good.clause; pair = plain_good.pair; pair_types = plain_good.pair_types; accessor = plain_good.accessor; head = plain_good.head; list_members = plain_good.list_members; list_statements = plain_good.list_statements }

-- a written type
typed : (m k : Making) → Good Always (sh.many sh.Atom ∷ []) m → IsStill m → Good Always (sh.one sh.Atom ∷ []) k → GoodPart (record plain { atoms = m; class = k })
typed m k x s y = record { own = plain_good.own; members = plain_good.members; atoms = x; still = s; class = y; parameter = plain_good.parameter; fields = plain_good.fields; kept = plain_good.kept; block = plain_good.block; branch = plain_good.branch; arm = plain_good.arm; clause = plain_good.clause; pair = plain_good.pair; pair_types = plain_good.pair_types; accessor = plain_good.accessor; head = plain_good.head; list_members = plain_good.list_members; list_statements = plain_good.list_statements }

-- a parameter
parameter : (m fs : Making) (b : Bool) (k : Making) → GoodParameters m → Good Always Members fs → Good Always Term k → GoodPart (record plain { parameter = m; fields = fs; is_field = b; kept = k })
parameter m fs b k x y z = record { own = plain_good.own; members = plain_good.members; atoms = plain_good.atoms; still = plain_good.still; class = plain_good.class; parameter = x; fields = y; kept = λ is. z; block = plain_good.block; branch = plain_good.branch; arm = plain_good.arm; clause = plain_good.clause; pair = plain_good.pair; pair_types = plain_good.pair_types; accessor = plain_good.accessor; head = plain_good.head; list_members = plain_good.list_members; list_statements = plain_good.list_statements }

-- parts of one construct alone
blocked : (m : ℕ → Making) → ((at : ℕ) → Good Always (sh.one sh.Block ∷ []) (m at)) → GoodPart (record plain { block = m })
blocked m x = record { own = plain_good.own; members = plain_good.members; atoms = plain_good.atoms; still = plain_good.still; class = plain_good.class; parameter = plain_good.parameter; fields = plain_good.fields; kept = plain_good.kept; block = x; branch = plain_good.branch; arm = plain_good.arm; clause = plain_good.clause; pair = plain_good.pair; pair_types = plain_good.pair_types; accessor = plain_good.accessor; head = plain_good.head; list_members = plain_good.list_members; list_statements = plain_good.list_statements }

branched : (m : Ahead) → Good Always Two m.made → GoodPart (record plain { branch = m })
branched m x = record { own = plain_good.own; members = plain_good.members; atoms = plain_good.atoms; still = plain_good.still; class = plain_good.class; parameter = plain_good.parameter; fields = plain_good.fields; kept = plain_good.kept; block = plain_good.block; branch = x; arm = plain_good.arm; clause = plain_good.clause; pair = plain_good.pair; pair_types = plain_good.pair_types; accessor = plain_good.accessor; head = plain_good.head; list_members = plain_good.list_members; list_statements = plain_good.list_statements }

armed : (m : Form → Ahead) → ((l : Local) → Good (Sees l) Two (m (f.Local l)).made) → GoodPart (record plain { arm = m })
armed m x = record { own = plain_good.own; members = plain_good.members; atoms = plain_good.atoms; still = plain_good.still; class = plain_good.class; parameter = plain_good.parameter; fields = plain_good.fields; kept = plain_good.kept; block = plain_good.block; branch = plain_good.branch; arm = x; clause = plain_good.clause; pair = plain_good.pair; pair_types = plain_good.pair_types; accessor = plain_good.accessor; head = plain_good.head; list_members = plain_good.list_members; list_statements = plain_good.list_statements }

clausal : (m : Making) → Good Always (sh.many sh.Clause ∷ []) m → GoodPart (record plain { clause = m })
clausal m x = record { own = plain_good.own; members = plain_good.members; atoms = plain_good.atoms; still = plain_good.still; class = plain_good.class; parameter = plain_good.parameter; fields = plain_good.fields; kept = plain_good.kept; block = plain_good.block; branch = plain_good.branch; arm = plain_good.arm; clause = x; pair = plain_good.pair; pair_types = plain_good.pair_types; accessor = plain_good.accessor; head = plain_good.head; list_members = plain_good.list_members; list_statements = plain_good.list_statements }

paired : (m : Making) (u : ℕ → Making) → Good Always (sh.pairs sh.Term ∷ []) m → ((at : ℕ) → Good Always (sh.one sh.Union ∷ sh.one sh.Union ∷ []) (u at)) → GoodPart (record plain { pair = m; pair_types = u })
paired m u x y = record { own = plain_good.own; members = plain_good.members; atoms = plain_good.atoms; still = plain_good.still; class = plain_good.class; parameter = plain_good.parameter; fields = plain_good.fields; kept = plain_good.kept; block = plain_good.block; branch = plain_good.branch; arm = plain_good.arm; clause = plain_good.clause; pair = x; pair_types = y; accessor = plain_good.accessor; head = plain_good.head; list_members = plain_good.list_members; list_statements = plain_good.list_statements }

accessing : (m : Bool → Making) → ((is_property : Bool) → Good Always Members (m is_property)) → GoodPart (record plain { accessor = m })
accessing m x = record { own = plain_good.own; members = plain_good.members; atoms = plain_good.atoms; still = plain_good.still; class = plain_good.class; parameter = plain_good.parameter; fields = plain_good.fields; kept = plain_good.kept; block = plain_good.block; branch = plain_good.branch; arm = plain_good.arm; clause = plain_good.clause; pair = plain_good.pair; pair_types = plain_good.pair_types; accessor = x; head = plain_good.head; list_members = plain_good.list_members; list_statements = plain_good.list_statements }

-- a list of statements
listed : (m : Making) (ms : List Making) → Good Always Members m → Goods Always Term ms → GoodPart (record plain { list_members = m; list_statements = ms })
listed m ms x y = record { own = plain_good.own; members = plain_good.members; atoms = plain_good.atoms; still = plain_good.still; class = plain_good.class; parameter = plain_good.parameter; fields = plain_good.fields; kept = plain_good.kept; block = plain_good.block; branch = plain_good.branch; arm = plain_good.arm; clause = plain_good.clause; pair = plain_good.pair; pair_types = plain_good.pair_types; accessor = plain_good.accessor; head = plain_good.head; list_members = x; list_statements = y }

level : (y : Tree-F Known) → GoodPart (part_level (map-Tree Tree Part part (map-Tree Known Tree tree_of y)))
level (Tree-F.Statements list) = listed _ _ (more.members_good _ (all_good list)) (g.statements_all _ (all_good list))
level (Tree-F.Union atoms) = typed _ _ (g.atoms_good _ (all_good atoms)) (still_all _ (atoms_still _ (all_good atoms))) (g.nil_atom_good 0)
level (Tree-F.Block ps body) = blocked _ (λ at. g.block_good at _ _ (all_good ps) (all_good body))
level (Tree-F.Pair key value) = paired _ _ (g.two_good _ _ key.1 value.1) (λ at. g.two_unions_good at _ _ key.1 value.1)
level (Tree-F.Branch at condition body) = branched _ (more.branch_good at _ _ condition.1 (all_good body))
level (Tree-F.In at types body) = armed _ (λ l. more.arm_good at _ _ l (all_good types) (all_good body))
level (Tree-F.When at None operation body) = clausal _ (more.when_good at _ _ _ operation.1.head (all_good body))
level (Tree-F.When at (Some to) operation body) = clausal _ (more.when_good at _ _ _ operation.1.head (all_good body))
level (Tree-F.Atom at path ps) = typed _ _ (good_one_many Always sh.Atom _ (g.atom_good at path _ (all_good ps))) (atom_still at path _ (all_good ps)) (g.atom_good at path _ (all_good ps))
level (Tree-F.Parameter at is_instance name None) = parameter _ _ _ _ (more.parameter_good at name _ tt) (more.fields_good at is_instance name _ tt) (more.kept_good at name)
level (Tree-F.Parameter at is_instance name (Some e)) = parameter _ _ _ _ (more.parameter_good at name _ e.1) (more.fields_good at is_instance name _ e.1) (more.kept_good at name)
level (Tree-F.Int32 at value) = term _ _ (leaf_good Always (f.Int32 value) at refl refl refl refl tt refl) tt
level (Tree-F.Int64 at value) = term _ _ (leaf_good Always (f.Int64 value) at refl refl refl refl tt refl) tt
level (Tree-F.Text at bytes) = term _ _ (g.text_good Always at bytes always_keeps) tt
level (Tree-F.Insertions at ts es) = term _ _ (g.insertions_good at ts _ (all_good es)) tt
level (Tree-F.Nil at) = term _ _ (good_nil Always at) tt
level (Tree-F.True at) = term _ _ (leaf_good Always f.True at refl refl refl refl tt refl) tt
level (Tree-F.False at) = term _ _ (leaf_good Always f.False at refl refl refl refl tt refl) tt
level (Tree-F.KeywordSelf at) = term _ _ (leaf_good Always f.KeywordSelf at refl refl refl refl tt refl) tt
level (Tree-F.InstanceVariable at name) = term _ _ (g.field_good at name) tt
level (Tree-F.Array at ps None) = term _ _ (g.array_good at _ _ (all_good ps) tt) tt
level (Tree-F.Hash at ps None) = term _ _ (g.hash_good at _ _ (all_good ps) tt) tt
level (Tree-F.Array at ps (Some e)) = term _ _ (g.array_good at _ _ (all_good ps) e.1) tt
level (Tree-F.Hash at ps (Some e)) = term _ _ (g.hash_good at _ _ (all_good ps) e.1) tt
level (Tree-F.Call at None name ps None) = term _ _ (g.call_good at None name _ None tt (all_good ps) tt) (tt, g.owns_good _ (all_good ps))
level (Tree-F.Call at None name ps (Some q)) = term _ _ (g.call_good at None name _ (Some (part q.0)) tt (all_good ps) q.1) (tt, g.owns_good _ (all_good ps))
level (Tree-F.Call at (Some e) name ps None) = term _ _ (g.call_good at (Some (part e.0)) name _ None e.1 (all_good ps) tt) (e.1.own, g.owns_good _ (all_good ps))
level (Tree-F.Call at (Some e) name ps (Some q)) = term _ _ (g.call_good at (Some (part e.0)) name _ (Some (part q.0)) e.1 (all_good ps) q.1) (e.1.own, g.owns_good _ (all_good ps))
level (Tree-F.Index at e ps question) = term _ _ (g.index_good at _ _ question e.1 (all_good ps)) (e.1.own, g.owns_good _ (all_good ps))
level (Tree-F.Binary at op l r) = term _ _ (g.binary_good at op _ _ l.1 r.1) tt
level (Tree-F.Unary at op x) = term _ _ (g.unary_good at op _ x.1) tt
level (Tree-F.IsNil at x) = term _ _ (g.is_nil_good at _ x.1) tt
level (Tree-F.IsA at x of) = term _ _ (g.is_a_good at _ _ x.1 of.1) tt
level (Tree-F.New at e question ps None) = term _ _ (g.new_good at _ question _ _ e.1 (all_good ps) tt) tt
level (Tree-F.New at e question ps (Some q)) = term _ _ (g.new_good at _ question _ _ e.1 (all_good ps) q.1) tt
level (Tree-F.Pause at) = term _ _ (leaf_good Always f.Pause at refl refl refl refl tt refl) tt
level (Tree-F.Yield at ps) = term _ _ (g.yield_good at _ (all_good ps)) tt
level (Tree-F.Super at ps) = term _ _ (g.super_good at _ (all_good ps)) tt
level (Tree-F.BareSuper at) = term _ _ (g.bare_super_good at) tt
level (Tree-F.Spawn at None body) = term _ _ (g.spawn_good at _ _ tt (all_good body)) tt
level (Tree-F.Spawn at (Some e) body) = term _ _ (g.spawn_good at _ _ e.1 (all_good body)) tt
level (Tree-F.If at unless condition body others None) = term _ _ (more.conditional_good at unless _ _ _ _ condition.1 (all_good body) (all_good others) tt) tt
level (Tree-F.If at unless condition body others (Some last)) = term _ _ (more.conditional_good at unless _ _ _ _ condition.1 (all_good body) (all_good others) (all_good last)) tt
level (Tree-F.While at until condition body) = term _ _ (more.loop_good at until _ _ condition.1 (all_good body)) tt
level (Tree-F.Case at value clauses) = term _ _ (more.case_good at _ _ _ value.1.own (all_good clauses)) tt
level (Tree-F.Select at clauses None) = term _ _ (more.select_good at _ None (all_good clauses) tt) tt
level (Tree-F.Select at clauses (Some last)) = term _ _ (more.select_good at _ (Some (parts (map tree_of last))) (all_good clauses) (all_good last)) tt
level (Tree-F.Assign at to op mark value) = term _ _ (more.assign_good at _ op mark _ to.1.head value.1.own) tt
level (Tree-F.Return at None) = term _ _ (more.return_good at _ tt) tt
level (Tree-F.Next at None) = term _ _ (more.next_good at _ tt) tt
level (Tree-F.Return at (Some e)) = term _ _ (more.return_good at _ e.1) tt
level (Tree-F.Next at (Some e)) = term _ _ (more.next_good at _ e.1) tt
level (Tree-F.Break at) = term _ _ (leaf_good Always f.Break at refl refl refl refl tt refl) tt
level (Tree-F.Class at name parameters superclass ps) = member _ (more.class_good at name parameters superclass _ (all_good ps))
level (Tree-F.Module at name ps) = member _ (more.module_good at name _ (all_good ps))
level (Tree-F.Include at name) = member _ (more.include_good at name)
level (Tree-F.Declaration at name e) = member _ (more.declaration_good at name _ e.1)
level (Tree-F.Accessors at is_property ps) = member _ (more.accessors_good is_property _ (all_good ps))
level (Tree-F.Accessor at name None) = accessing _ (λ is_property. more.accessor_good at name _ is_property tt)
level (Tree-F.Def at name ps None body) = member _ (more.method_good at name _ _ _ (all_good ps) tt (all_good body))
level (Tree-F.Accessor at name (Some e)) = accessing _ (λ is_property. more.accessor_good at name _ is_property e.1)
level (Tree-F.Def at name ps (Some e) body) = member _ (more.method_good at name _ _ _ (all_good ps) e.1 (all_good body))

pub every_tree : (x : Tree) → GoodPart (part x)
every_tree = ind-Tree IsGood (λ x y is. subst GoodPart (ap (λ (z : Tree-F Tree). part_level (map-Tree Tree Part part z)) is ∙ sym (fold-roll-Tree Part part_level x)) (level y))
