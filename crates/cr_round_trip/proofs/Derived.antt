-- What is claimed of all that proper tokens spell, line by line of the grammar: from types up to `or`.
use Rattle.std.proofs.Common.{◌≡◌, ◌≢◌, ℕ, zero, suc, Bool, true, false, List, [], ◌∷◌, ◌++◌, map, Option, Some, None, refl, sym, ap, subst, ◌∙◌, inl, inr, ◌⊎◌}
use Rattle.std.specs.Prelude.{ℤ, IsTrue, is_some}
use Rattle.std.specs.Str.{IsUtf8}
use Rattle.cr_syntax.specs.declared.look.TokenLook.{TokenLook}
use Rattle.cr_syntax.specs.declared.look.TokenLook.TheVariants as l
use Rattle.cr_syntax.specs.declared.token.Token.{Token}
use Rattle.cr_syntax.specs.declared.token.TokenKind.TheVariants as k
use Rattle.cr_grammar.specs.declared.operator.Binary.{Binary}
use Rattle.cr_grammar.specs.declared.operator.Unary.TheVariants as prefix
use Rattle.cr_grammar.specs.declared.tree.Tree.{Tree}
use Rattle.cr_grammar.specs.declared.tree.Tree.TheVariants as tree
use Rattle.cr_grammar.specs.declared.within.Within.{Within}
use Rattle.cr_grammar.specs.declared.word.Atom.{Atom}
use Rattle.cr_grammar.specs.declared.word.Word.{Word}
use Rattle.cr_grammar.specs.Forms.{Form, word, ident, constant}
use Rattle.cr_grammar.specs.Operators as o
use Rattle.cr_grammar.specs.declared.wanted.Wanted.{Wanted}
use Rattle.cr_grammar.specs.declared.wanted.Wanted.TheVariants.{Written, When, Unary, Or, Simple, Stmt}
use Rattle.cr_grammar.specs.Wanted.{in_block, in_loop, in_object}
use Rattle.cr_grammar.specs.Expressions as ex
use Rattle.cr_pieces.specs.Proper.{IsProper, IsName, IsConstantName, AllProper}
use Rattle.cr_round_trip.proofs.Known.{All, Any, IsPath, IsBlockName, IsLocal, HasParts}
use Rattle.cr_round_trip.proofs.Claims.{Claims, Whatever, AllFrom, after, either, gives, perhaps, any_number, under, tested, closely, again, with_end, a_word, this_word, a_name, separators, a_list, some_list, within_parentheses, statements, anything, one_proper, weaker, from_all, at_least_one}
use Rattle.cr_round_trip.proofs.Closed.{Claimed, Closed, IsReceive, ClosedValues, ClosedCalls, ClosedTypes, ClosedCompounds}

-- what is claimed of what stands inside
pub record Given (c : Claimed) (S : Wanted → Form Tree) : Type 0 where
  pub written : (flag : Bool) → Claims (S (Written flag)) (c.written flag)
  pub when : (within : Within) (free : Bool) → Claims (S (When within free)) (c.when within)
  pub unary : (within : Within) (free : Bool) → Claims (S (Unary within free)) (c.value within)
  pub or : (within : Within) (free : Bool) → Claims (S (Or within free)) (c.value within)
  pub simple : (within : Within) → Claims (S (Simple within)) (c.value within)
  pub stmt : (within : Within) → Claims (S (Stmt within)) (c.value within)

-- ---- names

pub an_ident : Claims ident (λ x. IsName x.text)
an_ident = a_name (λ text. k.Ident text)

pub a_constant : Claims constant (λ x. IsConstantName x.text)
a_constant = a_name (λ text. k.Constant text)

names_are : (more : List Word) → All (λ x. IsConstantName x.text) more → All IsConstantName (map (λ (x : Word). x.text) more)
names_are [] h = tt
names_are (x ∷ xs) h = (h.0, names_are xs h.1)

path_is : Claims ex.path (λ p. IsPath p.names)
path_is = after a_constant (λ first h. after (any_number (after a_word (λ at u. a_constant))) (λ more hs. gives (h, names_are more hs)))

-- ---- types

-- an atom, as the grammar has it
abbrev IsAtom : Claimed → Bool → Atom → Type 0
IsAtom c flag a = IsPath a.path.names × All (c.written true) a.arguments × (flag ≡ false → a.arguments ≡ [])

all_append : (P : Tree → Type 0) (xs ys : List Tree) → All P xs → All P ys → All P (xs ++ ys)
all_append P [] ys h g = g
all_append P (x ∷ xs) ys h g = (h.0, all_append P xs ys h.1 g)

module _ (c : Claimed) (closed : ClosedTypes c) (flag : Bool) where
  atom_claimed : (a : Atom) → IsAtom c flag a → c.atom flag (ex.atom_tree a)
  atom_claimed a h = closed.atom flag a.path.at a.path.names a.arguments h.0 h.1 h.2

  question_claimed : (q : Option ℕ) → All (c.atom flag) (ex.question_atoms q)
  question_claimed None = tt
  question_claimed (Some at) = (closed.atom flag at (o.nil_name ∷ []) [] ((refl, refl), tt) tt (λ e. refl), tt)

  atoms_claimed : (more : List Atom) → All (IsAtom c flag) more → All (c.atom flag) (ex.all_atoms more)
  atoms_claimed [] h = tt
  atoms_claimed (a ∷ more) h = (atom_claimed a h.0, all_append (c.atom flag) (ex.question_atoms a.question) (ex.all_atoms more) (question_claimed a.question) (atoms_claimed more h.1))

  union_claimed : (first : Atom) (more : List Atom) → IsAtom c flag first → All (IsAtom c flag) more → c.written flag (tree.Union (ex.all_atoms (first ∷ more)))
  union_claimed first more h hs = closed.union flag (ex.atom_tree first) (ex.question_atoms first.question ++ ex.all_atoms more) (atom_claimed first h)
      (all_append (c.atom flag) (ex.question_atoms first.question) (ex.all_atoms more) (question_claimed first.question) (atoms_claimed more hs))

-- ---- lists with a first one

pub from_first : {A : Type 0} (P : A → Type 0) (Q : List A → Type 0) → ((x : A) (xs : List A) → P x → All P xs → Q (x ∷ xs)) → (xs : List A) → AllFrom P xs → Q xs
from_first P Q h [] none = absurd none
from_first P Q h (x ∷ xs) held = h x xs held.0 held.1

-- ---- the parts of a text with insertions

abbrev IsPart : (Tree → Type 0) → Tree × List ℕ → Type 0
IsPart P z = P z.0 × IsUtf8 z.1

values_of : (P : Tree → Type 0) (more : List (Tree × List ℕ)) → All (IsPart P) more → All P (map (λ (x : Tree × List ℕ). x.0) more)
values_of P [] h = tt
values_of P (z ∷ more) h = (h.0.0, values_of P more h.1)

parts_of : (P : Tree → Type 0) (value : Tree) (more : List (Tree × List ℕ)) (last : List ℕ) → All (IsPart P) more → IsUtf8 last
    → HasParts (map (λ (x : Tree × List ℕ). x.1) more ++ last ∷ []) (value ∷ map (λ (x : Tree × List ℕ). x.0) more)
parts_of P value [] last h utf8 = utf8
parts_of P value (z ∷ []) last h utf8 = (h.0.1, utf8)
parts_of P value (z ∷ y ∷ more) last h utf8 = (h.0.1, parts_of P z.0 (y ∷ more) last h.1 utf8)

-- the block of `new`, by the class
abbrev IsNewBlock : (Tree → Type 0) → List (List ℕ) → Option Tree → Type 0
IsNewBlock P path b = ((path ≡ o.isolated_path) × (list : List Tree) × All P list × (b ≡ Some (tree.Block [] list))) ⊎ ((path ≢ o.isolated_path) × (b ≡ None))

-- a call of `receive`, or of what is like it
record IsReceived (P : Tree → Type 0) (x : Tree) : Type 0 where
  place : ℕ
  channel : Tree
  name : List ℕ
  is : x ≡ tree.Call place (Some channel) name [] None
  held : P channel
  proper : IsName name
  receives : IsReceive name

record IsSent (P : Tree → Type 0) (x : Tree) : Type 0 where
  place : ℕ
  channel : Tree
  sent : Tree
  is : x ≡ tree.Call place (Some channel) o.send_name (sent ∷ []) None
  held : P channel
  value : P sent

module _ (c : Claimed) (closed : Closed c) (S : Wanted → Form Tree) (given : Given c S) where
  abbrev values : ClosedValues c
  values = closed.values

  abbrev calls : ClosedCalls c
  calls = closed.calls

  abbrev compounds : ClosedCompounds c
  compounds = closed.compounds

  arguments_of_type : (flag : Bool) → Claims (ex.type_arguments S flag) (λ xs. All (c.written true) xs × (flag ≡ false → xs ≡ []))
  arguments_of_type true = either (weaker (λ xs h. (from_all (c.written true) xs h, λ e. absurd cc)) (closely (within_parentheses (a_list (given.written true))))) (gives (tt, λ e. refl))
  arguments_of_type false = gives (tt, λ e. refl)

  atom_is : (flag : Bool) → Claims (ex.atom S flag) (IsAtom c flag)
  atom_is flag = after path_is (λ path h. after (arguments_of_type flag) (λ xs hs. after anything (λ q u. gives (h, hs.0, hs.1))))

  pub written_is : (flag : Bool) → Claims (ex.written S flag) (c.written flag)
  written_is flag = after (atom_is flag) (λ first h. after (any_number (after a_word (λ at u. atom_is flag))) (λ more hs. gives (union_claimed c closed.types flag first more h hs)))

  -- ---- bodies and blocks

  pub body_is : (within : Within) → Claims (ex.body S within) (All (c.value within))
  body_is within = statements (given.stmt within)

  otherwise_is : (within : Within) → Claims (ex.otherwise S within) (Any (All (c.value within)))
  otherwise_is within = perhaps (after a_word (λ at u. body_is within))

  block_name : Claims (ex.block_parameter S) IsBlockName
  block_name = after an_ident (λ name h. gives (record { at = name.at; name = name.text; is = refl; proper = h }))

  names_is : Claims (ex.pars S) (AllFrom IsBlockName)
  names_is = after a_word (λ at u. after (a_list block_name) (λ names hs. after a_word (λ at' u'. gives hs)))

  pub doblock_is : (within : Within) → Claims (ex.doblock S within) (c.block within)
  doblock_is within = after a_word (λ at u. after (some_list names_is) (λ names hs. after (body_is (in_block within)) (λ list hl. after a_word (λ at' u'. gives (calls.block within names list hs hl)))))

  braces_is : (within : Within) → Claims (ex.braces S within) (c.block within)
  braces_is within = after a_word (λ at u. after separators (λ v w. after (some_list names_is) (λ names hs. after (body_is (in_block within)) (λ list hl. after a_word (λ at' u'. gives (calls.block within names list hs hl))))))

  module _ (within : Within) (free : Bool) where
    abbrev Value : Tree → Type 0
    Value = c.value within

    block_is : Claims (ex.block S within free) (c.block within)
    block_is = either (braces_is within) (under (λ is. doblock_is within))

    plain_is : Claims (ex.plain S within free) (All (c.value (in_block within)))
    plain_is = either (after a_word (λ at u. after (body_is (in_block within)) (λ list h. after a_word (λ at' u'. gives h))))
        (under (λ is. after a_word (λ at u. after (body_is (in_block within)) (λ list h. after a_word (λ at' u'. gives h)))))

    inside_is : Claims (ex.inside S within free) (AllFrom Value)
    inside_is = a_list (given.or within true)

    arguments_is : Claims (ex.arguments S within free) (All Value)
    arguments_is = either (closely (within_parentheses (some_list inside_is))) (gives tt)

    -- ---- what a postfix begins with

    number_is : Claims (ex.number S within free) Value
    number_is = record { holds = λ w x t p. by_kind w x t.0 t.1 t.2 p }
      where
        by_kind : (w : List Token) (x : Tree) (t : Token) → w ≡ t ∷ []
            → ((n : ℤ) × (t.kind ≡ k.Int32 n) × (x ≡ tree.Int32 t.span.first n)) ⊎ ((n : ℤ) × (t.kind ≡ k.Int64 n) × (x ≡ tree.Int64 t.span.first n)) → AllProper w → Value x
        by_kind w x t e (inl i) p = subst Value (sym i.2) (values.int32 within t.span.first i.0 (one_proper w t (k.Int32 i.0) e i.1 p))
        by_kind w x t e (inr i) p = subst Value (sym i.2) (values.int64 within t.span.first i.0 (one_proper w t (k.Int64 i.0) e i.1 p))

    part_is : Claims (ex.part_behind S within free) (IsPart Value)
    part_is = after (a_name (λ text. k.TextMiddle text)) (λ part h. after (given.or within free) (λ value hv. gives (hv, h)))

    insertions_is : Claims (ex.insertions S within free) Value
    insertions_is = after (a_name (λ text. k.TextFirst text)) (λ first h. after (given.or within free) (λ value hv. after (any_number part_is) (λ more hm. after (a_name (λ text. k.TextLast text)) (λ last hl.
        gives (values.insertions within first.at first.text (map (λ (x : Tree × List ℕ). x.1) more ++ last.text ∷ []) (value ∷ map (λ (x : Tree × List ℕ). x.0) more) h (parts_of Value value more last.text hm hl) (hv, values_of Value more hm))))))

    text_is : Claims (ex.text S within free) Value
    text_is = either (after (a_name (λ text. k.Text text)) (λ text h. gives (values.text within text.at text.text h))) insertions_is

    constants_is : Claims (ex.constants S within free) Value
    constants_is = either (after a_word (λ at u. gives (values.nil within at))) (either (after a_word (λ at u. gives (values.yes within at))) (after a_word (λ at u. gives (values.no within at))))

    variable_is : Claims (ex.variable S within free) Value
    variable_is = under (λ is. after (a_name (λ text. k.InstanceVariable text)) (λ name h. gives (values.variable within name.at name.text is h)))

    named_is : Claims (ex.named S within free) Value
    named_is = after an_ident (λ name h. after arguments_is (λ xs hs. after (perhaps block_is) (λ b hb. gives (calls.called within name.at None name.text xs b tt h hs hb))))

    yielded_is : IsTrue within.method → Claims (ex.yielded S within free) Value
    yielded_is is = after a_word (λ at u. after arguments_is (λ xs hs. gives (calls.yield within at xs is hs)))

    above_is : IsTrue within.method → Claims (ex.above S within free) Value
    above_is is = either (after a_word (λ at u. gives (calls.bare_super within at is))) (after a_word (λ at u. after (closely (within_parentheses (some_list inside_is))) (λ xs hs. gives (calls.super within at xs is hs))))

    new_block_is : (path : List (List ℕ)) → Claims (ex.new_block S within free path) (IsNewBlock (c.value (in_block within)) path)
    new_block_is path = record { holds = by_path }
      where
        by_path : (w : List Token) (b : Option Tree) → ex.new_block S within free path w b → AllProper w → IsNewBlock (c.value (in_block within)) path b
        by_path w b (inl (is, list, r, same)) p = inl (is, list, plain_is.holds w list r p, same)
        by_path w b (inr (is, (nil, same))) p = inr (is, same)

    new_claimed : (at : ℕ) (class : Atom) (xs : List Tree) (b : Option Tree) → IsAtom c true class → All Value xs → IsNewBlock (c.value (in_block within)) class.path.names b
        → Value (tree.New at (ex.atom_tree class) (is_some class.question) xs b)
    new_claimed at class xs b h hs (inl (is, list, hl, same)) =
        subst (λ (z : Option Tree). Value (tree.New at (ex.atom_tree class) (is_some class.question) xs z)) (sym same) (calls.isolated within at class.path.at class.path.names class.arguments (is_some class.question) xs list h.0 is h.1 hs hl)
    new_claimed at class xs b h hs (inr (is, same)) =
        subst (λ (z : Option Tree). Value (tree.New at (ex.atom_tree class) (is_some class.question) xs z)) (sym same) (calls.new within at class.path.at class.path.names class.arguments (is_some class.question) xs h.0 is h.1 hs)

    made_is : Claims (ex.made S within free) Value
    made_is = after (atom_is true) (λ class h. after a_word (λ at u. after this_word (λ at' u'. after arguments_is (λ xs hs. after (new_block_is class.path.names) (λ b hb. gives (new_claimed at' class xs b h hs hb))))))

    pause_is : Claims (ex.pause S within free) Value
    pause_is = after this_word (λ at u. after a_word (λ at' u'. after a_word (λ at'' u''. gives (calls.pause within at))))

    array_is : Claims (ex.array S within free) Value
    array_is = after a_word (λ at u. after separators (λ v w. after (some_list inside_is) (λ xs hs. after separators (λ v' w'. after a_word (λ at' u'. after (perhaps (after a_word (λ at'' u''. given.written true)))
        (λ element he. gives (values.array within at xs element hs he)))))))

    pair_is : {R : Form Tree} {P Q : Tree → Type 0} → Claims R P → ((a b : Tree) → P a → P b → Q (tree.Pair a b)) → Claims (ex.pair S within free R) Q
    pair_is r h = after r (λ key hk. after (after a_word (λ at u. separators)) (λ v w. after r (λ value hv. gives (h key value hk hv))))

    hash_is : Claims (ex.hash S within free) Value
    hash_is = after a_word (λ at u. after separators (λ v w. after (some_list (a_list (pair_is (given.or within free) (values.pair within)))) (λ xs hs. after a_word (λ at' u'.
        after (perhaps (after a_word (λ at'' u''. pair_is (given.written true) values.type_pair))) (λ entry he. gives (values.hash within at xs entry hs he))))))

    spawned_is : Claims (ex.spawned S within free) Value
    spawned_is = after a_word (λ at u. after plain_is (λ list hl. gives (calls.spawn within at None list tt hl)))

    -- ---- compound forms

    elsif_is : Claims (ex.elsif S within free) (c.branch within)
    elsif_is = after a_word (λ at u. after (given.simple within) (λ condition hc. after anything (λ at' u'. after (body_is within) (λ list hl. gives (compounds.branch within at condition list hc hl)))))

    conditional_by : (seen : TokenLook) (unless : Bool) (elsifs : Form (List Tree)) → Claims elsifs (λ xs. All (c.branch within) xs × (unless ≡ true → xs ≡ [])) → Claims (ex.conditional_of S within free seen unless elsifs) Value
    conditional_by seen unless elsifs branches = after a_word (λ at u. after (given.simple within) (λ condition hc. after anything (λ at' u'. after (body_is within) (λ list hl. after branches (λ others ho.
        after (otherwise_is within) (λ last hw. after a_word (λ at'' u''. gives (compounds.conditional within at unless condition list others last hc hl ho.0 ho.1 hw))))))))

    conditional_is : Claims (ex.conditional S within free) Value
    conditional_is = either (conditional_by l.If false _ (weaker (λ xs h. (h, λ e. absurd cc)) (any_number elsif_is))) (conditional_by l.Unless true _ (gives (tt, λ e. refl)))

    looping_by : (seen : TokenLook) (until : Bool) → Claims (ex.looping_of S within free seen until) Value
    looping_by seen until = after a_word (λ at u. after (given.simple (in_loop within)) (λ condition hc. after a_word (λ at' u'. after (body_is (in_loop within)) (λ list hl. after a_word (λ at'' u''. gives (compounds.loop within at until condition list hc hl))))))

    looping_is : Claims (ex.looping S within free) Value
    looping_is = either (looping_by l.While false) (looping_by l.Until true)

    in_is : Claims (ex.in_clause S within free) (c.clause within)
    in_is = after a_word (λ at u. after (a_list (given.written false)) (λ types hs. after anything (λ at' u'. after (body_is within) (λ list hl.
        gives (from_first (c.written false) (λ xs. c.clause within (tree.In at xs list)) (λ x xs h hs. compounds.clause within at x xs list h hs hl) types hs)))))

    cases_is : Claims (ex.cases S within free) Value
    cases_is = after a_word (λ at u. after (given.simple within) (λ value hv. after a_word (λ at' u'. after separators (λ v w. after (at_least_one in_is) (λ clauses hs. after a_word (λ at'' u''.
        gives (from_first (c.clause within) (λ xs. Value (tree.Case at value xs)) (λ x xs h hs. compounds.cases within at value x xs hv h hs) clauses hs)))))))

    select_is : Claims (ex.select S within free) Value
    select_is = after a_word (λ at u. after a_word (λ at' u'. after separators (λ v w. after (at_least_one (given.when within free)) (λ clauses hs. after (otherwise_is within) (λ last hw. after a_word (λ at'' u''.
        gives (from_first (c.when within) (λ xs. Value (tree.Select at xs last)) (λ x xs h hs. compounds.select within at x xs last h hs hw) clauses hs)))))))

    primary_is : Claims (ex.primary S within free) Value
    primary_is = either number_is (either text_is (either constants_is (either (under (λ is. after a_word (λ at u. gives (values.itself within at is)))) (either variable_is (either named_is
        (either (under (λ is. either (yielded_is is) (above_is is))) (either made_is (either pause_is (either array_is (either hash_is (either (within_parentheses (given.stmt within)) (either spawned_is
        (either conditional_is (either looping_is (either cases_is select_is)))))))))))))))

    -- ---- postfix

    called_is : (x : Tree) → Value x → Claims (ex.called S within free x) Value
    called_is x hx = after a_word (λ at u. after an_ident (λ name h. after arguments_is (λ xs hs. after (perhaps block_is) (λ b hb. gives (calls.called within name.at (Some x) name.text xs b hx h hs hb)))))

    pub indices_is : Claims (ex.indices S within free) (λ z. AllFrom Value z.1)
    indices_is = closely (after a_word (λ at u. after separators (λ v w. after inside_is (λ xs hs. after separators (λ v' w'. after a_word (λ at' u'. gives hs))))))

    indexed_is : (x : Tree) → Value x → Claims (ex.indexed S within free x) Value
    indexed_is x hx = after indices_is (λ found hs. after anything (λ q u. gives (from_first Value (λ xs. Value (tree.Index found.0 x xs (is_some q))) (λ z zs h hs. calls.index within found.0 x z zs (is_some q) hx h hs) found.1 hs)))

    asked_is : (x : Tree) → Value x → Claims (ex.asked S within free x) Value
    asked_is x hx = after a_word (λ at u. after a_word (λ at' u'. after (closely (within_parentheses (given.written false))) (λ type ht. gives (calls.is_a within at' x type hx ht))))

    asked_nil_is : (x : Tree) → Value x → Claims (ex.asked_nil S within free x) Value
    asked_nil_is x hx = after a_word (λ at u. after a_word (λ at' u'. gives (calls.is_nil within at' x hx)))

    spawned_in_is : (x : Tree) → Value x → Claims (ex.spawned_in S within free x) Value
    spawned_in_is x hx = after a_word (λ at u. after a_word (λ at' u'. after plain_is (λ list hl. gives (calls.spawn within at' (Some x) list hx hl))))

    link_is : (x : Tree) → Value x → Claims (ex.link S within free x) Value
    link_is x hx = either (called_is x hx) (either (indexed_is x hx) (either (asked_is x hx) (either (asked_nil_is x hx) (spawned_in_is x hx))))

    pub postfix_is : Claims (ex.postfix S within free) Value
    postfix_is = after primary_is (λ x hx. again link_is hx)

    -- ---- the clauses of `select`

    into_is : Claims (ex.received_into S within free) IsLocal
    into_is = after an_ident (λ name h. after a_word (λ at u. gives (record { at = name.at; name = name.text; is = refl; proper = h })))

    receive_is : Claims (ex.receive S within free) (IsReceived Value)
    receive_is = after postfix_is (λ channel hc. after a_word (λ at u. after an_ident (λ name h. record {
      holds = λ w x t p.
          record { place = name.at; channel = channel; name = name.text; is = t.1.1; held = hc; proper = h; receives = t.0 };
    })))

    send_is : Claims (ex.send S within free) (IsSent Value)
    send_is = after postfix_is (λ channel hc. after a_word (λ at u. after this_word (λ at' u'. after (closely (within_parentheses (given.or within true))) (λ x hx.
        gives (record { place = at'; channel = channel; sent = x; is = refl; held = hc; value = hx })))))

    when_by : {into : Form (Option Tree)} {R : Form Tree} {P : Option Tree → Type 0} {Q : Tree → Type 0} → Claims into P → Claims R Q
        → ((at : ℕ) (target : Option Tree) (operation : Tree) (list : List Tree) → P target → Q operation → All Value list → c.when within (tree.When at target operation list)) → Claims (ex.when_of S within free into R) (c.when within)
    when_by t r h = after a_word (λ at u. after t (λ target ht. after r (λ operation ho. after anything (λ at' u'. after (body_is within) (λ list hl. gives (h at target operation list ht ho hl))))))

    pub when_is : Claims (ex.when S within free) (c.when within)
    when_is = either (when_by (perhaps into_is) receive_is (λ at target operation list ht r hl. subst (λ (z : Tree). c.when within (tree.When at target z list)) (sym r.is) (compounds.receives within at target r.place r.channel r.name list ht r.held r.proper r.receives hl)))
        (when_by {P = λ z. z ≡ None} (gives refl) send_is (λ at target operation list none r hl. subst (λ (z : Tree). c.when within (tree.When at target z list)) (sym r.is)
        (subst (λ (z : Option Tree). c.when within (tree.When at z (tree.Call r.place (Some r.channel) o.send_name (r.sent ∷ []) None) list)) (sym none) (compounds.sends within at r.place r.channel r.sent list r.held r.value hl))))

    -- ---- operators

    pub unary_is : Claims (ex.unary S within free) Value
    unary_is = either (after a_word (λ at u. after (given.unary within free) (λ x hx. gives (values.unary within at prefix.Not x hx))))
        (either (after a_word (λ at u. after (given.unary within free) (λ x hx. gives (values.unary within at prefix.Negate x hx)))) postfix_is)

    operator_is : (table : TokenLook → Option Binary) (R : Form Tree) → Claims R Value → (x : Tree × TokenLook) → Value x.0 → Claims (ex.operation S within free table R x) (λ y. Value y.0)
    operator_is table R r x h = tested (after anything (λ found u. after (with_end r) (λ y hy. gives (values.binary within found.0 found.1 x.0 y.0 h hy))))

    operations_is : (table : TokenLook → Option Binary) (R : Form Tree) → Claims R Value → Claims (ex.operations S within free table R) Value
    operations_is table R r = after (with_end r) (λ x h. after (again (λ y hy. operator_is table R r y hy) h) (λ y hy. gives hy))

    one_operation_is : (table : TokenLook → Option Binary) (R : Form Tree) → Claims R Value → Claims (ex.one_operation S within free table R) Value
    one_operation_is table R r = either r (after (with_end r) (λ x h. after (operator_is table R r x h) (λ y hy. gives hy)))

    pub or_is : Claims (ex.or S within free) Value
    or_is =
        operations_is o.or_operator _ (operations_is o.and_operator _ (one_operation_is o.cmp_operator _ (operations_is o.shift_operator _ (operations_is o.sum_operator _ (operations_is o.prod_operator _ unary_is)))))
