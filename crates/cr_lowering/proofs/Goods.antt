-- What the table makes is well formed.
use Rattle.std.specs.Prelude.{codes}
use Rattle.std.proofs.Common.{◌≡◌, ℕ, zero, suc, ◌+◌, ◌≤◌, Bool, true, false, List, [], ◌∷◌, ◌++◌, map, Option, Some, None, refl, arith}
use Rattle.cr_base.specs.declared.ids.NameId.{NameId}
use Rattle.cr_grammar.specs.declared.operator.Binary.{Binary}
use Rattle.cr_grammar.specs.declared.operator.Binary.TheVariants as b
use Rattle.cr_grammar.specs.declared.operator.Unary.{Unary}
use Rattle.cr_grammar.specs.declared.operator.Unary.TheVariants as u
use Rattle.cr_core.specs.declared.form.Form.{Form}
use Rattle.cr_core.specs.declared.form.Form.TheVariants as f
use Rattle.cr_core.specs.declared.form.Local.{Local}
use Rattle.cr_core.specs.declared.form.TextId.{TextId}
use Rattle.cr_core.specs.Arena.{opening}
use Rattle.cr_core.specs.Shape as sh
use Rattle.cr_core.specs.Shape.{Role, role, Portion, portions, Fits, where_told}
use Rattle.cr_core.specs.Tree.{names_of, text_of, local_of}
use Rattle.cr_making.specs.declared.naming.Passed.{Passed}
use Rattle.cr_making.specs.declared.words.Word.{Word}
use Rattle.cr_making.specs.declared.words.Word.TheVariants.{Puts, Raise, NoWord}
use Rattle.cr_making.specs.Words.{word_of, operator, index_name, variable, path_name}
use Rattle.cr_making.specs.Naming.{State, named, literal, found, later_local, passed}
use Rattle.cr_making.specs.Making.{Making, nothing, ◌▸◌, wrapped, leaf, using}
use Rattle.cr_making.specs.Part.{Part, Head, NoHead, Called, Element, Variable, own_of, each, is_there, terms, held, held_block, line, statements_of, statements, union, held_union}
use Rattle.cr_making.specs.Terms as t
use Rattle.cr_lowering.proofs.Grows.{parameter_slot}
use Rattle.cr_lowering.proofs.Fresh.{opens_none, NoParameter, pairs_two}
use Rattle.cr_lowering.proofs.Good.{Good, Keeps, Always, always_keeps, good_where, good_as, good_nothing, good_join, good_wrapped, good_leaf, knows_plain, knows_name, knows_local, knows_text, good_using, HasName, HasText, Sees, MaySee, SeesRun, keeps_both, keeps_name, keeps_seen_run, named_does, literal_does, found_does, passed_does, Goods, good_many, good_none, good_all, good_one_many, good_all_pairs, good_nil, good_sequence, term_many, term_alone, good_nest_left, Term}
use Rattle.cr_lowering.proofs.Inside.{GoodParameters, no_parameters_made, parameters_joined, body_does, good_block}

-- it leaves the innermost scope as it is
pub record IsStill (m : Making) : Type 0 where
  pub still : (s : State) → (m s).after.inner ≡ s.inner

abbrev pub MaybeGood : Option Making → Type 0
MaybeGood None = Unit {0}
MaybeGood (Some m) = Good Always Term m

abbrev pub GoodHead : Head → Type 0
GoodHead NoHead = Unit {0}
GoodHead (Called at receiver name arguments bare) = MaybeGood receiver × Goods Always Term arguments
GoodHead (Element at receiver arguments question) = Good Always Term receiver × Goods Always Term arguments
GoodHead (Variable name) = Unit {0}

abbrev pub Two : List Portion
Two = sh.one sh.Term ∷ sh.one sh.Term ∷ []

abbrev pub Members : List Portion
Members = sh.many sh.Member ∷ []

pub record GoodPart (p : Part) : Type 0 where
  pub own : Good Always Term p.own
  pub members : Good Always Members p.members
  pub atoms : Good Always (sh.many sh.Atom ∷ []) p.atoms
  pub still : IsStill p.atoms
  pub class : Good Always (sh.one sh.Atom ∷ []) p.class
  pub parameter : GoodParameters p.parameter
  pub fields : Good Always Members p.fields
  pub kept : p.is_field ≡ true → Good Always Term p.kept
  pub block : (at : ℕ) → Good Always (sh.one sh.Block ∷ []) (p.block at)
  pub branch : Good Always Two p.branch.made
  pub arm : (l : Local) → Good (Sees l) Two (p.arm (f.Local l)).made
  pub clause : Good Always (sh.many sh.Clause ∷ []) p.clause
  pub pair : Good Always (sh.pairs sh.Term ∷ []) p.pair
  pub pair_types : (at : ℕ) → Good Always (sh.one sh.Union ∷ sh.one sh.Union ∷ []) (p.pair_types at)
  pub accessor : (is_property : Bool) → Good Always Members (p.accessor is_property)
  pub head : GoodHead p.head
  pub list_members : Good Always Members p.list_members
  pub list_statements : Goods Always Term p.list_statements

abbrev pub AllGood : List Part → Type 0
AllGood [] = Unit {0}
AllGood (p ∷ ps) = GoodPart p × AllGood ps

abbrev pub OneGood : Option Part → Type 0
OneGood None = Unit {0}
OneGood (Some p) = GoodPart p

abbrev pub ListGood : Option (List Part) → Type 0
ListGood None = Unit {0}
ListGood (Some ps) = AllGood ps

-- ---- nodes that name nothing, or a name

pub node_good : (W : State → Type 0) (form : Form) (at : ℕ) (m : Making) → names_of form ≡ [] → text_of form ≡ None → local_of form ≡ None → parameter_slot form ≡ None → opens_none (opening form) → NoParameter (portions form) → Good W (portions form) m → Good W (sh.one (role form) ∷ []) (wrapped form at m)
node_good W form at m no_name no_text no_local no_slot no_scope no_one x = good_wrapped W form at m (λ s w. knows_plain form s no_name no_text no_local no_slot) no_scope no_one x

pub leaf_good : (W : State → Type 0) (form : Form) (at : ℕ) → names_of form ≡ [] → text_of form ≡ None → local_of form ≡ None → parameter_slot form ≡ None → opens_none (opening form) → portions form ≡ [] → Good W (sh.one (role form) ∷ []) (leaf form at)
leaf_good W form at no_name no_text no_local no_slot no_scope no_parts = good_leaf W form at (λ s w. knows_plain form s no_name no_text no_local no_slot) no_scope no_parts

pub local_good : (W : State → Type 0) (l : Local) (at : ℕ) → ((s : State) → W s → Sees l s) → Good W Term (leaf (f.Local l) at)
local_good W l at sees = good_leaf W (f.Local l) at (λ s w. knows_local (f.Local l) l s (sees s w) refl refl refl refl) tt refl

pub set_good : (W : State → Type 0) (l : Local) (at : ℕ) (m : Making) → ((s : State) → W s → Sees l s) → Good W Term m → Good W Term (wrapped (f.Set l) at m)
set_good W l at m sees x = good_wrapped W (f.Set l) at m (λ s w. knows_local (f.Set l) l s (sees s w) refl refl refl refl) tt (refl, tt) x

-- what is made with a name
pub with_name_good : (W : State → Type 0) (ps : List Portion) (text : List ℕ) (k : NameId → Making) → Keeps W → ((id : NameId) → Good (λ (s : State). W s × HasName id s) ps (k id)) → Good W ps (using (named text) k)
with_name_good W ps text k keeps x = good_using W HasName ps (named text) k keeps (λ s i w. named_does text s i) x

pub weaker : (W V : State → Type 0) (ps : List Portion) (m : Making) → ((s : State) → V s → W s) → Good W ps m → Good V ps m
weaker W V ps m h x = record { does = λ s i v. x.does s i (h s v) }

-- ---- calls

no_parameter_call : (receiver blocked : Bool) → NoParameter (where_told receiver sh.Term ++ sh.many sh.Term ∷ where_told blocked sh.Block)
no_parameter_call true true = (refl, (refl, (refl, tt)))
no_parameter_call true false = (refl, (refl, tt))
no_parameter_call false true = (refl, (refl, tt))
no_parameter_call false false = (refl, tt)

pub call_node : (W : State → Type 0) (id : NameId) (at : ℕ) (receiver blocked : Bool) (m : Making) → ((s : State) → W s → HasName id s) → Good W (where_told receiver sh.Term ++ sh.many sh.Term ∷ where_told blocked sh.Block) m → Good W Term (wrapped (f.Call id receiver blocked) at m)
call_node W id at receiver blocked m there x =
    good_wrapped W (f.Call id receiver blocked) at m (λ s w. knows_name (f.Call id receiver blocked) id s (there s w) refl refl refl refl) tt (no_parameter_call receiver blocked) x

pub called_good : (W : State → Type 0) (at : ℕ) (name : List ℕ) (receiver blocked : Bool) (m : Making) → Keeps W → Good W (where_told receiver sh.Term ++ sh.many sh.Term ∷ where_told blocked sh.Block) m → Good W Term (t.called at name receiver blocked m)
unfolding t.called
called_good W at name receiver blocked m keeps x =
    with_name_good W Term name (λ (id : NameId). wrapped (f.Call id receiver blocked) at m) keeps
    (λ id. call_node (λ (s : State). W s × HasName id s) id at receiver blocked m (λ s w. w.1) (weaker W (λ (s : State). W s × HasName id s) _ m (λ s w. w.0) x))

-- a receiver alone, or with an argument
pub sent_alone : (W : State → Type 0) (at : ℕ) (name : List ℕ) (m : Making) → Keeps W → Good W Term m → Good W Term (t.sent at name m)
sent_alone W at name m keeps x = called_good W at name true false m keeps (good_as W Term (sh.one sh.Term ∷ sh.many sh.Term ∷ []) m term_alone x)

pub sent_two : (W : State → Type 0) (at : ℕ) (name : List ℕ) (m k : Making) → Keeps W → Good W Term m → Good W Term k → Good W Term (t.sent at name (m ▸ k))
sent_two W at name m k keeps x y = called_good W at name true false (m ▸ k) keeps (good_as W Two (sh.one sh.Term ∷ sh.many sh.Term ∷ []) (m ▸ k) term_many (good_join W Term Term m k keeps x y))

pub sent_many : (W : State → Type 0) (at : ℕ) (name : List ℕ) (m k : Making) → Keeps W → Good W Term m → Good W (sh.many sh.Term ∷ []) k → Good W Term (t.sent at name (m ▸ k))
sent_many W at name m k keeps x y = called_good W at name true false (m ▸ k) keeps (good_join W Term (sh.many sh.Term ∷ []) m k keeps x y)

pub text_good : (W : State → Type 0) (at : ℕ) (bytes : List ℕ) → Keeps W → Good W Term (t.text at bytes)
unfolding t.text
text_good W at bytes keeps =
    good_using W HasText Term (literal bytes) (λ (id : TextId). leaf (f.Text id) at) keeps (λ s i w. literal_does bytes s i)
    (λ id. good_leaf (λ (s : State). W s × HasText id s) (f.Text id) at (λ s w. knows_text id s w.1) tt refl)

-- each part in the same place
pub owns_good : (ps : List Part) → AllGood ps → Goods Always Term (map own_of ps)
owns_good [] h = tt
owns_good (p ∷ ps) h = (h.0.own, owns_good ps h.1)

pub many_owns : (ps : List Part) → AllGood ps → Goods Always (sh.many sh.Term ∷ []) (map own_of ps)
many_owns [] h = tt
many_owns (p ∷ ps) h = (good_one_many Always sh.Term p.own h.0.own, many_owns ps h.1)

pub terms_good : (ps : List Part) → AllGood ps → Good Always (sh.many sh.Term ∷ []) (terms ps)
terms_good ps h = good_all Always sh.Term (map own_of ps) always_keeps (many_owns ps h)

statement_lines : (t : Bool) (p : Part) (ms : List Making) → GoodPart p → Goods Always Term ms → Goods Always Term (line t p.own ms)
statement_lines true p ms x h = (x.own, h)
statement_lines false p ms x h = h

pub statements_all : (ps : List Part) → AllGood ps → Goods Always Term (statements_of ps)
statements_all [] h = tt
statements_all (p ∷ ps) h = statement_lines p.is_statement p (statements_of ps) h.0 (statements_all ps h.1)

pub statements_good : (at : ℕ) (ps : List Part) → AllGood ps → Good Always Term (statements at ps)
unfolding statements
statements_good at ps h = good_sequence Always at (statements_of ps) always_keeps (statements_all ps h)

pub held_good : (p : Option Part) → OneGood p → Good Always (where_told (is_there p) sh.Term) (held p)
held_good None h = good_nothing Always
held_good (Some p) h = h.own

pub block_held : (at : ℕ) (p : Option Part) → OneGood p → Good Always (where_told (is_there p) sh.Block) (held_block at p)
block_held at None h = good_nothing Always
block_held at (Some p) h = h.block at

pub union_good : (at : ℕ) (p : Part) → GoodPart p → Good Always (sh.one sh.Union ∷ []) (union at p)
union_good at p h = node_good Always f.Union at p.atoms refl refl refl refl tt (refl, tt) h.atoms

pub union_held : (at : ℕ) (p : Option Part) → OneGood p → Good Always (where_told (is_there p) sh.Union) (held_union at p)
union_held at None h = good_nothing Always
union_held at (Some p) h = union_good at p h

bare_leaf : (W : State → Type 0) (id : NameId) (at : ℕ) → ((s : State) → W s → HasName id s) → Good W Term (leaf (f.Call id false false) at)
bare_leaf W id at there = call_node W id at false false nothing there (good_none W sh.Term)

pub empty_line_good : (at : ℕ) → Good Always Term (t.empty_line at)
unfolding t.empty_line
empty_line_good at = node_good Always f.Puts at (t.text at []) refl refl refl refl tt (refl, tt) (text_good Always at [] always_keeps)

alone_good : (W : State → Type 0) (word : Word) (at : ℕ) (id : NameId) → ((s : State) → W s → HasName id s) → Good W Term (t.alone_by word at id)
alone_good W Puts at id there = good_where W Term (t.empty_line at) (empty_line_good at)
alone_good W Raise at id there = bare_leaf W id at there
alone_good W NoWord at id there = bare_leaf W id at there

local_or_alone_good : (at : ℕ) (name : List ℕ) (id : NameId) (l : Option Local) → Good (λ (s : State). (Always s × HasName id s) × MaySee l s) Term (t.local_or_alone at name id l)
local_or_alone_good at name id (Some l) = local_good (λ (s : State). (Always s × HasName id s) × MaySee (Some l) s) l at (λ s w. w.1)
local_or_alone_good at name id None = alone_good (λ (s : State). (Always s × HasName id s) × MaySee None s) (word_of name) at id (λ s w. w.0.1)

abbrev pub NameKept : NameId → State → Type 0
NameKept id s = Always s × HasName id s

pub name_kept : (id : NameId) → Keeps (NameKept id)
name_kept id = keeps_both Always (HasName id) always_keeps (keeps_name id)

pub name_alone_good : (at : ℕ) (name : List ℕ) → Good Always Term (t.name_alone at name)
unfolding t.name_alone
name_alone_good at name =
    with_name_good Always Term name (λ (id : NameId). using (found id) (λ (l : Option Local). t.local_or_alone at name id l)) always_keeps
    (λ id. good_using (NameKept id) MaySee Term (found id) (λ (l : Option Local). t.local_or_alone at name id l) (name_kept id) (λ s i w. found_does id s i) (local_or_alone_good at name id))

pub puts_good : (at : ℕ) (p : Part) → GoodPart p → Good Always Term (t.around f.Puts at p)
unfolding t.around
puts_good at p h = node_good Always f.Puts at p.own refl refl refl refl tt (refl, tt) h.own

pub raise_good : (at : ℕ) (p : Part) → GoodPart p → Good Always Term (t.around f.Raise at p)
unfolding t.around
raise_good at p h = node_good Always f.Raise at p.own refl refl refl refl tt (refl, tt) h.own

pub not_good : (at : ℕ) (p : Part) → GoodPart p → Good Always Term (t.around f.Not at p)
unfolding t.around
not_good at p h = node_good Always f.Not at p.own refl refl refl refl tt (refl, tt) h.own

with_one_good : (word : Word) (at : ℕ) (name : List ℕ) (p : Part) → GoodPart p → Good Always Term (t.with_one_by word at name p)
with_one_good Puts at name p h = puts_good at p h
with_one_good Raise at name p h = raise_good at p h
with_one_good NoWord at name p h = called_good Always at name false false p.own always_keeps (good_one_many Always sh.Term p.own h.own)

bare_call_good : (at : ℕ) (name : List ℕ) (ps : List Part) → AllGood ps → Good Always Term (t.bare_call at name ps)
bare_call_good at name [] h = name_alone_good at name
bare_call_good at name (p ∷ []) h = with_one_good (word_of name) at name p h.0
bare_call_good at name (p ∷ q ∷ ps) h = called_good Always at name false false (terms (p ∷ q ∷ ps)) always_keeps (terms_good (p ∷ q ∷ ps) h)

full_call_good : (at : ℕ) (receiver : Option Part) (name : List ℕ) (ps : List Part) (blk : Option Part) → OneGood receiver → AllGood ps → OneGood blk → Good Always Term (t.full_call at receiver name ps blk)
unfolding t.full_call
full_call_good at receiver name ps blk x h y =
    called_good Always at name (is_there receiver) (is_there blk) (held receiver ▸ terms ps ▸ held_block at blk) always_keeps
    (good_join Always (where_told (is_there receiver) sh.Term) (sh.many sh.Term ∷ where_told (is_there blk) sh.Block) (held receiver) (terms ps ▸ held_block at blk) always_keeps (held_good receiver x)
    (good_join Always (sh.many sh.Term ∷ []) (where_told (is_there blk) sh.Block) (terms ps) (held_block at blk) always_keeps (terms_good ps h) (block_held at blk y)))

pub call_good : (at : ℕ) (receiver : Option Part) (name : List ℕ) (ps : List Part) (blk : Option Part) → OneGood receiver → AllGood ps → OneGood blk → Good Always Term (t.call at receiver name ps blk)
call_good at None name ps None x h y = bare_call_good at name ps h
call_good at None name ps (Some q) x h y = full_call_good at None name ps (Some q) x h y
call_good at (Some p) name ps None x h y = full_call_good at (Some p) name ps None x h y
call_good at (Some p) name ps (Some q) x h y = full_call_good at (Some p) name ps (Some q) x h y

pub index_good : (at : ℕ) (a : Part) (ps : List Part) (question : Bool) → GoodPart a → AllGood ps → Good Always Term (t.index at a ps question)
unfolding t.index
index_good at a ps question x h = sent_many Always at (index_name question) a.own (terms ps) always_keeps x.own (terms_good ps h)

-- ---- operators

operation_good : (at : ℕ) (name : List ℕ) (l r : Part) → GoodPart l → GoodPart r → Good Always Term (t.operation at name l r)
unfolding t.operation
operation_good at name l r x y = sent_two Always at name l.own r.own always_keeps x.own y.own

and_good : (at : ℕ) (l r : Part) → GoodPart l → GoodPart r → Good Always Term (t.both f.And at l r)
unfolding t.both
and_good at l r x y = node_good Always f.And at (l.own ▸ r.own) refl refl refl refl tt (refl, (refl, tt)) (good_join Always Term Term l.own r.own always_keeps x.own y.own)

or_good : (at : ℕ) (l r : Part) → GoodPart l → GoodPart r → Good Always Term (t.both f.Or at l r)
unfolding t.both
or_good at l r x y = node_good Always f.Or at (l.own ▸ r.own) refl refl refl refl tt (refl, (refl, tt)) (good_join Always Term Term l.own r.own always_keeps x.own y.own)

not_equal_good : (at : ℕ) (l r : Part) → GoodPart l → GoodPart r → Good Always Term (t.not_equal at l r)
unfolding t.not_equal
not_equal_good at l r x y = node_good Always f.Not at (t.operation at (codes "==") l r) refl refl refl refl tt (refl, tt) (operation_good at (codes "==") l r x y)

pub binary_good : (at : ℕ) (op : Binary) (l r : Part) → GoodPart l → GoodPart r → Good Always Term (t.binary at op l r)
binary_good at b.And l r x y = and_good at l r x y
binary_good at b.Or l r x y = or_good at l r x y
binary_good at b.NotEqual l r x y = not_equal_good at l r x y
binary_good at b.Equal l r x y = operation_good at (operator b.Equal) l r x y
binary_good at b.Less l r x y = operation_good at (operator b.Less) l r x y
binary_good at b.LessEqual l r x y = operation_good at (operator b.LessEqual) l r x y
binary_good at b.Greater l r x y = operation_good at (operator b.Greater) l r x y
binary_good at b.GreaterEqual l r x y = operation_good at (operator b.GreaterEqual) l r x y
binary_good at b.ShiftLeft l r x y = operation_good at (operator b.ShiftLeft) l r x y
binary_good at b.Plus l r x y = operation_good at (operator b.Plus) l r x y
binary_good at b.Minus l r x y = operation_good at (operator b.Minus) l r x y
binary_good at b.WrappingPlus l r x y = operation_good at (operator b.WrappingPlus) l r x y
binary_good at b.WrappingMinus l r x y = operation_good at (operator b.WrappingMinus) l r x y
binary_good at b.Star l r x y = operation_good at (operator b.Star) l r x y
binary_good at b.SlashSlash l r x y = operation_good at (operator b.SlashSlash) l r x y
binary_good at b.Percent l r x y = operation_good at (operator b.Percent) l r x y
binary_good at b.WrappingStar l r x y = operation_good at (operator b.WrappingStar) l r x y

negate_good : (at : ℕ) (p : Part) → GoodPart p → Good Always Term (t.negate at p)
unfolding t.negate
negate_good at p h = sent_alone Always at (codes "-") p.own always_keeps h.own

pub unary_good : (at : ℕ) (op : Unary) (p : Part) → GoodPart p → Good Always Term (t.unary at op p)
unary_good at u.Not p h = not_good at p h
unary_good at u.Negate p h = negate_good at p h

-- ---- types

unions_good : (at : ℕ) (ps : List Part) → AllGood ps → Goods Always (sh.many sh.Union ∷ []) (map (union at) ps)
unions_good at [] h = tt
unions_good at (p ∷ ps) h = (good_one_many Always sh.Union (union at p) (union_good at p h.0), unions_good at ps h.1)

pub atom_good : (at : ℕ) (path : List (List ℕ)) (ps : List Part) → AllGood ps → Good Always (sh.one sh.Atom ∷ []) (t.atom at path ps)
unfolding t.atom
atom_good at path ps h =
    with_name_good Always (sh.one sh.Atom ∷ []) (path_name path) (λ (id : NameId). wrapped (f.Atom id) at (each (union at) ps)) always_keeps
    (λ id. good_wrapped (NameKept id) (f.Atom id) at (each (union at) ps) (λ s w. knows_name (f.Atom id) id s w.1 refl refl refl refl) tt (refl, tt)
    (good_where (NameKept id) (sh.many sh.Union ∷ []) (each (union at) ps) (good_all Always sh.Union (map (union at) ps) always_keeps (unions_good at ps h))))

pub nil_atom_good : (at : ℕ) → Good Always (sh.one sh.Atom ∷ []) (t.nil_atom at)
unfolding t.nil_atom
nil_atom_good at =
    with_name_good Always (sh.one sh.Atom ∷ []) (codes "Nil") (λ (id : NameId). leaf (f.Atom id) at) always_keeps
    (λ id. good_wrapped (NameKept id) (f.Atom id) at nothing (λ s w. knows_name (f.Atom id) id s w.1 refl refl refl refl) tt (refl, tt) (good_none (NameKept id) sh.Union))

pub atoms_all : (ps : List Part) → AllGood ps → Goods Always (sh.many sh.Atom ∷ []) (map (λ (p : Part). p.atoms) ps)
atoms_all [] h = tt
atoms_all (p ∷ ps) h = (h.0.atoms, atoms_all ps h.1)

pub atoms_good : (ps : List Part) → AllGood ps → Good Always (sh.many sh.Atom ∷ []) (each (λ (p : Part). p.atoms) ps)
atoms_good ps h = good_all Always sh.Atom (map (λ (p : Part). p.atoms) ps) always_keeps (atoms_all ps h)

pub is_nil_good : (at : ℕ) (p : Part) → GoodPart p → Good Always Term (t.is_nil at p)
unfolding t.is_nil
is_nil_good at p h =
    node_good Always f.IsA at (p.own ▸ t.nil_atom at) refl refl refl refl tt (refl, (refl, tt))
    (good_join Always Term (sh.many sh.Atom ∷ []) p.own (t.nil_atom at) always_keeps h.own (good_one_many Always sh.Atom (t.nil_atom at) (nil_atom_good at)))

pub is_a_good : (at : ℕ) (p q : Part) → GoodPart p → GoodPart q → Good Always Term (t.is_a at p q)
unfolding t.is_a
is_a_good at p q h g = node_good Always f.IsA at (p.own ▸ q.atoms) refl refl refl refl tt (refl, (refl, tt)) (good_join Always Term (sh.many sh.Atom ∷ []) p.own q.atoms always_keeps h.own g.atoms)

-- ---- what makes a value

pub field_good : (at : ℕ) (name : List ℕ) → Good Always Term (t.field at name)
unfolding t.field
field_good at name =
    with_name_good Always Term (variable name) (λ (id : NameId). leaf (f.Field id) at) always_keeps
    (λ id. good_leaf (NameKept id) (f.Field id) at (λ s w. knows_name (f.Field id) id s w.1 refl refl refl refl) tt refl)

no_parameter_new : (blocked : Bool) → NoParameter (sh.one sh.Atom ∷ sh.many sh.Term ∷ where_told blocked sh.Block)
no_parameter_new true = (refl, (refl, (refl, tt)))
no_parameter_new false = (refl, (refl, tt))

pub new_good : (at : ℕ) (class : Part) (question : Bool) (ps : List Part) (blk : Option Part) → GoodPart class → AllGood ps → OneGood blk → Good Always Term (t.new at class question ps blk)
unfolding t.new
new_good at class question ps blk x h y =
    node_good Always (f.New question (is_there blk)) at (class.class ▸ terms ps ▸ held_block at blk) refl refl refl refl tt (no_parameter_new (is_there blk))
    (good_join Always (sh.one sh.Atom ∷ []) (sh.many sh.Term ∷ where_told (is_there blk) sh.Block) class.class (terms ps ▸ held_block at blk) always_keeps x.class
    (good_join Always (sh.many sh.Term ∷ []) (where_told (is_there blk) sh.Block) (terms ps) (held_block at blk) always_keeps (terms_good ps h) (block_held at blk y)))

no_parameter_array : (of : Bool) → NoParameter (sh.many sh.Term ∷ where_told of sh.Union)
no_parameter_array true = (refl, (refl, tt))
no_parameter_array false = (refl, tt)

pub array_good : (at : ℕ) (ps : List Part) (of : Option Part) → AllGood ps → OneGood of → Good Always Term (t.array at ps of)
unfolding t.array
array_good at ps of h y =
    node_good Always (f.Array (is_there of)) at (terms ps ▸ held_union at of) refl refl refl refl tt (no_parameter_array (is_there of))
    (good_join Always (sh.many sh.Term ∷ []) (where_told (is_there of) sh.Union) (terms ps) (held_union at of) always_keeps (terms_good ps h) (union_held at of y))

pub two_good : (p q : Part) → GoodPart p → GoodPart q → Good Always (sh.pairs sh.Term ∷ []) (t.two p q)
unfolding t.two
two_good p q h g = good_as Always Two (sh.pairs sh.Term ∷ []) (p.own ▸ q.own) (pairs_two sh.Term) (good_join Always Term Term p.own q.own always_keeps h.own g.own)

pub two_unions_good : (at : ℕ) (p q : Part) → GoodPart p → GoodPart q → Good Always (sh.one sh.Union ∷ sh.one sh.Union ∷ []) (t.two_unions at p q)
unfolding t.two_unions
two_unions_good at p q h g = good_join Always (sh.one sh.Union ∷ []) (sh.one sh.Union ∷ []) (union at p) (union at q) always_keeps (union_good at p h) (union_good at q g)

no_union_good : (at : ℕ) → Good Always (sh.one sh.Union ∷ []) (leaf f.Union at)
no_union_good at = node_good Always f.Union at nothing refl refl refl refl tt (refl, tt) (good_none Always sh.Atom)

pub no_unions_good : (at : ℕ) → Good Always (sh.one sh.Union ∷ sh.one sh.Union ∷ []) (t.no_unions at)
unfolding t.no_unions
no_unions_good at = good_join Always (sh.one sh.Union ∷ []) (sh.one sh.Union ∷ []) (leaf f.Union at) (leaf f.Union at) always_keeps (no_union_good at) (no_union_good at)

pairs_all : (ps : List Part) → AllGood ps → Goods Always (sh.pairs sh.Term ∷ []) (map (λ (p : Part). p.pair) ps)
pairs_all [] h = tt
pairs_all (p ∷ ps) h = (h.0.pair, pairs_all ps h.1)

types_held : (at : ℕ) (p : Option Part) → OneGood p → Good Always (where_told (is_there p) sh.Union ++ where_told (is_there p) sh.Union) (t.held_types at p)
types_held at None h = good_nothing Always
types_held at (Some p) h = h.pair_types at

no_parameter_hash : (of : Bool) → NoParameter (sh.pairs sh.Term ∷ (where_told of sh.Union ++ where_told of sh.Union))
no_parameter_hash true = (refl, (refl, (refl, tt)))
no_parameter_hash false = (refl, tt)

pub hash_good : (at : ℕ) (ps : List Part) (of : Option Part) → AllGood ps → OneGood of → Good Always Term (t.hash at ps of)
unfolding t.hash
hash_good at ps of h y =
    let entries = each (λ (p : Part). p.pair) ps in
    node_good Always (f.Hash (is_there of)) at (entries ▸ t.held_types at of) refl refl refl refl tt (no_parameter_hash (is_there of))
    (good_join Always (sh.pairs sh.Term ∷ []) (where_told (is_there of) sh.Union ++ where_told (is_there of) sh.Union) entries (t.held_types at of) always_keeps
    (good_all_pairs Always sh.Term (map (λ (p : Part). p.pair) ps) always_keeps (pairs_all ps h)) (types_held at of y))

-- ---- texts with insertions

abbrev Sums : NameId → NameId → State → Type 0
Sums plus to_s s = (Always s × HasName plus s) × HasName to_s s

sums_kept : (plus to_s : NameId) → Keeps (Sums plus to_s)
sums_kept plus to_s = keeps_both (NameKept plus) (HasName to_s) (name_kept plus) (keeps_name to_s)

insertion_good : (at : ℕ) (plus to_s : NameId) (p : Part) → GoodPart p → Good (Sums plus to_s) Term (t.insertion at to_s p)
unfolding t.insertion
insertion_good at plus to_s p h =
    call_node (Sums plus to_s) to_s at true false p.own (λ s w. w.1)
    (good_where (Sums plus to_s) (sh.one sh.Term ∷ sh.many sh.Term ∷ []) p.own (good_as Always Term (sh.one sh.Term ∷ sh.many sh.Term ∷ []) p.own term_alone h.own))

insertions_all : (at : ℕ) (plus to_s : NameId) (ts : List (List ℕ)) (ps : List Part) → AllGood ps → Goods (Sums plus to_s) Term (t.insertions_with at to_s ts ps)
insertions_all at plus to_s [] [] h = tt
insertions_all at plus to_s [] (p ∷ ps) h = tt
insertions_all at plus to_s (x ∷ ts) [] h = tt
insertions_all at plus to_s (x ∷ ts) (p ∷ ps) h = (insertion_good at plus to_s p h.0, (text_good (Sums plus to_s) at x (sums_kept plus to_s), insertions_all at plus to_s ts ps h.1))

joined_good : (at : ℕ) (plus to_s : NameId) (ts : List (List ℕ)) (ps : List Part) → AllGood ps → Good (Sums plus to_s) Term (t.joined_text at plus to_s ts ps)
joined_good at plus to_s [] ps h = good_nil (Sums plus to_s) at
joined_good at plus to_s (x ∷ ts) ps h =
    good_nest_left (Sums plus to_s) plus at (t.text at x) (t.insertions_with at to_s ts ps) (sums_kept plus to_s) (λ s w. w.0.1) (text_good (Sums plus to_s) at x (sums_kept plus to_s)) (insertions_all at plus to_s ts ps h)

pub insertions_good : (at : ℕ) (ts : List (List ℕ)) (ps : List Part) → AllGood ps → Good Always Term (t.insertions at ts ps)
unfolding t.insertions
insertions_good at ts ps h =
    with_name_good Always Term (codes "+") (λ (plus : NameId). using (named (codes "to_s")) (λ (to_s : NameId). t.joined_text at plus to_s ts ps)) always_keeps
    (λ plus. with_name_good (NameKept plus) Term (codes "to_s") (λ (to_s : NameId). t.joined_text at plus to_s ts ps) (name_kept plus) (λ to_s. joined_good at plus to_s ts ps h))

-- ---- blocks

pub parameters_all : (ps : List Part) → AllGood ps → GoodParameters (each (λ (p : Part). p.parameter) ps)
parameters_all [] h = no_parameters_made
parameters_all (p ∷ ps) h = parameters_joined p.parameter (each (λ (q : Part). q.parameter) ps) h.0.parameter (parameters_all ps h.1)

pub block_good : (at : ℕ) (ps body : List Part) → AllGood ps → AllGood body → Good Always (sh.one sh.Block ∷ []) (t.block at ps body)
unfolding t.block
block_good at ps body h g =
    good_block at (each (λ (p : Part). p.parameter) ps ▸ statements at body)
    (λ s i empty. body_does Term (each (λ (p : Part). p.parameter) ps) (statements at body) s (parameters_all ps h) (statements_good at body g) (refl, tt) i empty)

no_parameter_spawn : (context : Bool) → NoParameter (where_told context sh.Term ++ sh.one sh.Block ∷ [])
no_parameter_spawn true = (refl, (refl, tt))
no_parameter_spawn false = (refl, tt)

pub spawn_good : (at : ℕ) (context : Option Part) (body : List Part) → OneGood context → AllGood body → Good Always Term (t.spawn at context body)
unfolding t.spawn
spawn_good at context body x g =
    node_good Always (f.Spawn (is_there context)) at (held context ▸ t.block at [] body) refl refl refl refl tt (no_parameter_spawn (is_there context))
    (good_join Always (where_told (is_there context) sh.Term) (sh.one sh.Block ∷ []) (held context) (t.block at [] body) always_keeps (held_good context x) (block_good at [] body tt g))

locals_from_good : (W : State → Type 0) (at : ℕ) (first : Local) (n k total : ℕ) → n + k ≤ total → Keeps W → ((s : State) → W s → SeesRun first total s) → Good W (sh.many sh.Term ∷ []) (t.locals_from at first n k)
locals_from_good W at first n zero total le keeps sees = good_none W sh.Term
locals_from_good W at first n (suc k) total le keeps sees =
    good_many W sh.Term (leaf (f.Local (later_local first n)) at) (t.locals_from at first (suc n) k) keeps
    (good_one_many W sh.Term (leaf (f.Local (later_local first n)) at) (local_good W (later_local first n) at (λ s w. sees s w n (omega (arith, le)))))
    (locals_from_good W at first (suc n) k total (omega (arith, le)) keeps sees)

pub locals_good : (W : State → Type 0) (at : ℕ) (first : Local) (count : ℕ) → Keeps W → ((s : State) → W s → SeesRun first count s) → Good W (sh.many sh.Term ∷ []) (t.locals at first count)
locals_good W at first count keeps sees = locals_from_good W at first 0 count count (omega arith) keeps sees

pub bare_super_good : (at : ℕ) → Good Always Term (t.bare_super at)
unfolding t.bare_super
bare_super_good at =
    good_using Always (λ (p : Passed) (s : State). SeesRun p.first p.count s) Term passed (λ (p : Passed). wrapped f.Super at (t.locals at p.first p.count)) always_keeps (λ s i w. passed_does s i)
    (λ p. let W : State → Type 0 = λ s. Always s × SeesRun p.first p.count s in
    node_good W f.Super at (t.locals at p.first p.count) refl refl refl refl tt (refl, tt)
    (locals_good W at p.first p.count (keeps_both Always (SeesRun p.first p.count) always_keeps (keeps_seen_run p.first p.count)) (λ s w. w.1)))

pub yield_good : (at : ℕ) (ps : List Part) → AllGood ps → Good Always Term (t.yield at ps)
unfolding t.yield
yield_good at ps h = node_good Always f.Yield at (terms ps) refl refl refl refl tt (refl, tt) (terms_good ps h)

pub super_good : (at : ℕ) (ps : List Part) → AllGood ps → Good Always Term (t.super at ps)
unfolding t.super
super_good at ps h = node_good Always f.Super at (terms ps) refl refl refl refl tt (refl, tt) (terms_good ps h)
