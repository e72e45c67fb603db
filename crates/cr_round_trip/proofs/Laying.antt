-- All that proper tokens spell is written as pieces that fit.
use Rattle.std.proofs.Common.{◌≡◌, ℕ, Bool, true, false, List, [], ◌∷◌, ◌++◌, map, Option, Some, None, refl, sym, ap, subst, ◌∙◌, inl, inr}
use Rattle.cr_syntax.specs.declared.look.TokenLook.TheVariants as l
use Rattle.cr_syntax.specs.declared.token.Token.{Token}
use Rattle.cr_syntax.specs.Lexes.{start, outermost, Lexes}
use Rattle.cr_grammar.specs.declared.tree.Tree.{Tree}
use Rattle.cr_grammar.specs.declared.tree.Tree.TheVariants as tree
use Rattle.cr_grammar.specs.declared.wanted.Wanted.TheVariants.{Program}
use Rattle.cr_grammar.specs.Operators as o
use Rattle.cr_grammar.specs.Grammar.{Spells}
use Rattle.cr_pieces.specs.Proper.{IsName, AllProper}
use Rattle.cr_pieces.specs.Pieces.{text_of}
use Rattle.cr_pieces.specs.Fits.{Fits, pieces_behind}
use Rattle.cr_pieces.specs.Laws.{BornBy}
use Rattle.cr_pieces.proofs.Standing as standing
use Rattle.cr_pieces.proofs.Properly as properly
use Rattle.cr_pretty.specs.Layout as y
use Rattle.cr_pretty.specs.Layout.{Laid, laid, bare}
use Rattle.cr_pretty.proofs.Laid as of
use Rattle.cr_round_trip.proofs.Known.{All, Any, IsBlockName, IsLocal, HasParts}
use Rattle.cr_round_trip.proofs.Fit.{Keeps}
use Rattle.cr_round_trip.proofs.Listed.{Lays}
use Rattle.cr_round_trip.proofs.Constructs as c
use Rattle.cr_round_trip.proofs.Constructs.{BlockLays}
use Rattle.cr_round_trip.proofs.Literals as literals
use Rattle.cr_round_trip.proofs.Types as types
use Rattle.cr_round_trip.proofs.Methods as methods
use Rattle.cr_round_trip.proofs.Closed.{Claimed, Closed, IsResult}
use Rattle.cr_round_trip.proofs.Stated.{items_of}
use Rattle.cr_round_trip.specs.Laws.{ReadAsWritten, LayoutHasTokens}

-- what a tree is written as fits; a block does behind a call
abbrev pub lays : Claimed
lays = record {
  value = λ within. Lays;
  written = λ flag. Lays;
  atom = λ flag. Lays;
  pair = λ within. Lays;
  type_pair = Lays;
  block = λ within. BlockLays;
  branch = λ within. Lays;
  clause = λ within. Lays;
  when = λ within. Lays;
  target = λ within operator. Lays;
  parameter = λ within. Lays;
  accessor = Lays;
  definition = λ class. Lays;
  member = Lays;
  part = Lays;
  item = Lays;
}

into_lays : (into : Option Tree) → Any IsLocal into → Any Lays into
into_lays None h = tt
into_lays (Some x) h = subst Lays (sym h.is) (c.call_lays h.at None h.name [] None tt h.proper tt tt)

result_lays : (name : List ℕ) (result : Option Tree) → IsResult (λ flag. Lays) name result → Any Lays result
result_lays name None h = tt
result_lays name (Some type) h = h.1

pub closed : Closed lays
closed = record {
  values = record {
    int32 = λ within at n has. c.int32_lays at n has;
    int64 = λ within at n has. c.int64_lays at n has;
    text = λ within at text utf8. c.text_lays at text utf8;
    insertions = λ within at first parts xs utf8 has hs. literals.insertions_lays at first parts xs utf8 has hs;
    nil = λ within at. c.nil_lays at;
    yes = λ within at. c.true_lays at;
    no = λ within at. c.false_lays at;
    itself = λ within at is. c.self_lays at;
    variable = λ within at name is h. c.variable_lays at name h;
    array = λ within at elements element hs h. literals.array_lays at elements element hs h;
    pair = λ within key value hk hv. literals.pair_lays key value hk hv;
    type_pair = λ key value hk hv. literals.pair_lays key value hk hv;
    hash = λ within at entries entry hs h. literals.hash_lays at entries entry hs h;
    unary = λ within at operator x h. c.unary_lays at operator x h;
    binary = λ within at operator x z hx hz. c.binary_lays at operator x z hx hz;
  };
  calls = record {
    called = λ within at receiver name xs b hr is hs hb. c.call_lays at receiver name xs b hr is hs hb;
    block = λ within parameters list hs hl. types.block_lays parameters list hs hl;
    index = λ within at x z zs question hx hz hzs. literals.index_lays at x (z ∷ zs) question hx (hz, hzs);
    is_nil = λ within at x h. c.is_nil_lays at x h;
    is_a = λ within at x type h ht. types.is_a_lays at x type h ht;
    new = λ within at place path args question xs is apart ha hs. types.new_lays at place path args question xs None is ha hs tt;
    isolated = λ within at place path args question xs list is same ha hs hl. types.new_lays at place path args question xs (Some (tree.Block [] list)) is ha hs (types.block_lays [] list tt hl);
    pause = λ within at. types.pause_lays at;
    yield = λ within at xs is hs. c.yield_lays at xs hs;
    super = λ within at xs is hs. c.super_lays at xs hs;
    bare_super = λ within at is. c.bare_super_lays at;
    spawn = λ within at context list hc hl. c.spawn_lays at context list hc hl;
  };
  types = record {
    atom = λ flag at path xs is hs none. types.atom_lays at path xs is hs;
    union = λ flag x xs h hs. types.union_lays x xs h hs;
  };
  compounds = record {
    conditional = λ within at unless condition list others otherwise hc hl ho none hw. c.if_lays at unless condition list others otherwise hc hl ho hw;
    branch = λ within at condition list hc hl. c.branch_lays at condition list hc hl;
    loop = λ within at until condition list hc hl. c.while_lays at until condition list hc hl;
    cases = λ within at value x xs hv h hs. c.case_lays at value (x ∷ xs) hv (h, hs);
    clause = λ within at type more list h hs hl. types.in_lays at type more list h hs hl;
    select = λ within at x xs otherwise h hs hw. c.select_lays at (x ∷ xs) otherwise (h, hs) hw;
    receives = λ within at into place channel name list hi hc is received hl. types.when_lays at into (tree.Call place (Some channel) name [] None) list (into_lays into hi) (c.call_lays place (Some channel) name [] None hc is tt tt) hl;
    sends = λ within at place channel x list hc hx hl. types.when_lays at None (tree.Call place (Some channel) o.send_name (x ∷ []) None) list tt (c.call_lays place (Some channel) o.send_name (x ∷ []) None hc (refl, refl, refl) (hx, tt) tt) hl;
  };
  statements = record {
    assign = λ within at x operator place value hx hv. c.assign_lays at x operator place value hx hv;
    local_target = λ within operator at name is. c.call_lays at None name [] None tt is tt tt;
    variable_target = λ within operator at name is h. c.variable_lays at name h;
    field_target = λ within operator at x name apart hx is. c.call_lays at (Some x) name [] None hx is tt tt;
    index_target = λ within operator at x z zs apart hx hz hzs. literals.index_lays at x (z ∷ zs) false hx (hz, hzs);
    return = λ within at value is h. c.return_lays at value h;
    next = λ within at value is h. c.next_lays at value h;
    break = λ within at is. c.break_lays at;
  };
  declarations = record {
    parameter = λ within at name type is h. types.parameter_lays at false name type (λ no. absurd cc) (λ e. is) h;
    instance_parameter = λ within at name type inside is h. types.parameter_lays at true name type (λ e. is) (λ no. absurd cc) h;
    define = λ class at name parameters result list is hp hr hl. methods.def_lays at name parameters result list is hp (result_lays name result hr) hl;
    accessor = λ at name type is h. types.accessor_lays at name type is h;
    accessors = λ at property x xs h hs. types.accessors_lays at property x xs h hs;
    declaration = λ at name type is h. types.declaration_lays at name type is h;
    include = λ at name is. types.include_lays at name is;
    include_part = λ at name is. types.include_lays at name is;
    member = λ x h. h;
    part = λ x h. h;
    class = λ at name parameters superclass members is hp hs hm. types.class_lays at name parameters superclass members is hp hs hm;
    module_of = λ at name members is hm. types.module_lays at name members is hm;
    definition = λ x h. h;
    statement = λ x h. h;
  };
}

-- ---- programs

-- what the items of a program are written as is read as it stands
items_read : (list : List Tree) → All Lays list → ReadAsWritten (tree.Statements list)
items_read list h =
    let ps = y.items (map laid list) in
    let fits : Fits start true ps [] = types.items_fit list h start refl in
    let keeps : outermost (pieces_behind start ps).nesting ≡ None = ap outermost (types.items_keep list h start) in
    subst (λ (v : Laid). (tokens : List Token) × Lexes (text_of (bare 0 v)) tokens × BornBy (bare 0 v) tokens) (sym (of.of_statements list)) (standing.pieces_are_read ps fits keeps)

pub layout_has_tokens : LayoutHasTokens
layout_has_tokens source w x lexes spells =
    let is = items_of lays closed w x spells (properly.tokens_are_proper source w lexes) in
    subst ReadAsWritten (sym is.2) (items_read is.0 is.1)
