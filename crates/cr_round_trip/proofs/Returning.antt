-- The layout of a program is read as the same program.
use Rattle.std.proofs.Common.{◌≡◌, ℕ, suc, ◌≤◌, Bool, true, false, List, [], ◌∷◌, ◌++◌, map, Option, Some, None, refl, sym, ap, subst, ◌∙◌, arith, inl, inr}
use Rattle.cr_syntax.specs.declared.look.TokenLook.TheVariants as l
use Rattle.cr_syntax.specs.declared.token.Token.{Token}
use Rattle.cr_syntax.specs.Look.{look_of}
use Rattle.cr_syntax.specs.Lexes.{Lexes}
use Rattle.cr_grammar.specs.declared.tree.Tree.{Tree}
use Rattle.cr_grammar.specs.declared.tree.Tree.TheVariants as tree
use Rattle.cr_grammar.specs.declared.wanted.Wanted.TheVariants.{Program}
use Rattle.cr_grammar.specs.Forms.{stmts}
use Rattle.cr_grammar.specs.Grammar as g
use Rattle.cr_grammar.specs.Grammar.{Spells_in, Spells}
use Rattle.cr_grammar.specs.Same.{unplaced, Same}
use Rattle.cr_pieces.specs.Pieces.{Piece, Blank, Put}
use Rattle.cr_pieces.specs.Fits.{blanked, is_newline, Bears}
use Rattle.cr_pieces.specs.Laws.{BornBy}
use Rattle.cr_pieces.proofs.Properly as properly
use Rattle.cr_pretty.specs.Layout as y
use Rattle.cr_pretty.specs.Layout.{Laid, laid, bare, layout}
use Rattle.cr_pretty.proofs.Laid as of
use Rattle.cr_round_trip.proofs.Known.{All, Any}
use Rattle.cr_round_trip.proofs.Fit.{pieces_assoc}
use Rattle.cr_round_trip.proofs.Unplaced as un
use Rattle.cr_round_trip.proofs.Reading.{Found, Reads, Like, AllLike}
use Rattle.cr_round_trip.proofs.Values.{Value}
use Rattle.cr_round_trip.proofs.Lines.{body_lines, body_reads}
use Rattle.cr_round_trip.proofs.ValuesRead as values
use Rattle.cr_round_trip.proofs.OperatorsRead as operators
use Rattle.cr_round_trip.proofs.LiteralsRead as literals
use Rattle.cr_round_trip.proofs.LiteralsRead.{PairRead, TypePair}
use Rattle.cr_round_trip.proofs.TypesRead as types
use Rattle.cr_round_trip.proofs.TypesRead.{Typed, AtomRead}
use Rattle.cr_round_trip.proofs.CallsRead as calls
use Rattle.cr_round_trip.proofs.CallsRead.{BlockRead}
use Rattle.cr_round_trip.proofs.LinksRead as links
use Rattle.cr_round_trip.proofs.CompoundsRead as compounds
use Rattle.cr_round_trip.proofs.CompoundsRead.{BranchRead, ClauseRead}
use Rattle.cr_round_trip.proofs.SelectRead as selects
use Rattle.cr_round_trip.proofs.SelectRead.{WhenRead}
use Rattle.cr_round_trip.proofs.StatementsRead as stated
use Rattle.cr_round_trip.proofs.StatementsRead.{TargetRead}
use Rattle.cr_round_trip.proofs.DeclarationsRead as declared
use Rattle.cr_round_trip.proofs.DeclarationsRead.{ParameterRead, AccessorRead, DefinitionRead, MemberRead, PartRead, ItemRead}
use Rattle.cr_round_trip.proofs.Closed.{Claimed, Closed}
use Rattle.cr_round_trip.proofs.Stated.{items_of}
use Rattle.cr_round_trip.proofs.Placed as placed
use Rattle.cr_round_trip.proofs.Laying.{layout_has_tokens}
use Rattle.cr_round_trip.specs.Laws.{ReadAgain, RoundTrip, FormatIsStill}

-- what a tree is laid out as is read as the same tree
abbrev pub reads : Claimed
reads = record {
  value = Value;
  written = Typed;
  atom = AtomRead;
  pair = PairRead;
  type_pair = TypePair;
  block = BlockRead;
  branch = BranchRead;
  clause = ClauseRead;
  when = WhenRead;
  target = TargetRead;
  parameter = ParameterRead;
  accessor = AccessorRead;
  definition = DefinitionRead;
  member = MemberRead;
  part = PartRead;
  item = ItemRead;
}

pub closed : Closed reads
closed = record {
  values = record {
    int32 = λ within at n has. values.int32_read within at n;
    int64 = λ within at n has. values.int64_read within at n;
    text = λ within at text utf8. values.text_read within at text;
    insertions = λ within at first parts xs utf8 has hs. literals.insertions_read within at first parts xs has hs;
    nil = values.nil_read;
    yes = values.true_read;
    no = values.false_read;
    itself = values.self_read;
    variable = λ within at name is h. values.variable_read within at name is;
    array = literals.array_read;
    pair = literals.pair_read;
    type_pair = literals.type_pair_read;
    hash = literals.hash_read;
    unary = operators.unary_read;
    binary = operators.binary_read;
  };
  calls = record {
    called = λ within at receiver name xs b hr is hs hb. calls.call_read within at receiver name xs b hr hs hb;
    block = calls.block_read;
    index = λ within at x z zs question hx hz hzs. links.index_read within at x z zs question hx (hz, hzs);
    is_nil = links.is_nil_read;
    is_a = links.is_a_read;
    new = links.new_read;
    isolated = λ within at place path args question xs list is same ha hs hl. links.isolated_read within at place path args question xs list is same ha hs hl (calls.block_read within [] list tt hl);
    pause = links.pause_read;
    yield = links.yield_read;
    super = links.super_read;
    bare_super = links.bare_super_read;
    spawn = links.spawn_read;
  };
  types = record {
    atom = types.atom_read;
    union = types.union_read;
  };
  compounds = record {
    conditional = compounds.if_read;
    branch = compounds.branch_read;
    loop = compounds.while_read;
    cases = compounds.case_read;
    clause = compounds.clause_read;
    select = selects.select_read;
    receives = λ within at into place channel name list hi hc is received hl. selects.receives_read within at into place channel name list hi hc received hl;
    sends = selects.sends_read;
  };
  statements = record {
    assign = λ within at x operator place value hx hv. stated.assign_read within at x operator place value hv hx;
    local_target = λ within operator at name is. stated.local_target within operator at name;
    variable_target = λ within operator at name is h. stated.variable_target within operator at name is;
    field_target = λ within operator at x name apart hx is. stated.field_target within operator at x name apart hx;
    index_target = λ within operator at x z zs apart hx hz hzs. stated.index_target within operator at x z zs apart hx (hz, hzs);
    return = stated.return_read;
    next = stated.next_read;
    break = stated.break_read;
  };
  declarations = record {
    parameter = λ within at name type is h. declared.parameter_read within at name type h;
    instance_parameter = λ within at name type inside is h. declared.instance_parameter_read within at name type inside h;
    define = λ class at name parameters result list is hp hr hl. declared.define_read class at name parameters result list is hp hr hl;
    accessor = λ at name type is h. declared.accessor_read at name type h;
    accessors = declared.accessors_read;
    declaration = λ at name type is h. declared.declaration_read at name type h;
    include = λ at name is. declared.include_read at name;
    include_part = λ at name is. declared.include_part at name;
    member = declared.definition_member;
    part = declared.definition_part;
    class = λ at name parameters superclass members is hp hs hm. declared.class_read at name parameters superclass members hm;
    module_of = λ at name members is hm. declared.module_read at name members hm;
    definition = declared.definition_item;
    statement = declared.statement_item;
  };
}

-- ---- the items of a program

bears_front : (ps qs rs : List Piece) → ((s : Bool) (w : List Token) → Bears s qs w → Bears s rs w) → (s : Bool) (w : List Token) → Bears s (ps ++ qs) w → Bears s (ps ++ rs) w
bears_front [] qs rs h s w b = h s w b
bears_front (Blank n ∷ ps) qs rs h s w b = bears_front ps qs rs h (blanked s n) w b
bears_front (Put kind ∷ ps) qs rs h s w (t, v, e, is, spaced, b) = (t, v, e, is, spaced, bears_front ps qs rs h (is_newline kind) v b)

-- no blanks stand in front of an item
bears_rest : (xs : List Laid) (s : Bool) (w : List Token) → Bears s (y.word l.Newline ∷ y.items xs) w → Bears s (y.lines 0 xs ++ y.word l.Newline ∷ []) w
bears_rest [] s w b = b
bears_rest (x ∷ xs) s w (t, v, e, is, spaced, b) = (
  t,
  v,
  e,
  is,
  spaced,
  subst (λ (ps : List Piece). Bears true ps v) (sym (pieces_assoc (bare 0 x) (y.lines 0 xs) (y.word l.Newline ∷ [])))
      (bears_front (bare 0 x) (y.word l.Newline ∷ y.items xs) (y.lines 0 xs ++ y.word l.Newline ∷ []) (bears_rest xs) true v b),
)

bears_items : (xs : List Laid) (s : Bool) (w : List Token) → Bears s (y.items xs) w → Bears s (body_lines 0 xs) w
bears_items [] s w b = b
bears_items (x ∷ xs) s w b = bears_front (bare 0 x) (y.word l.Newline ∷ y.items xs) (y.lines 0 xs ++ y.word l.Newline ∷ []) (bears_rest xs) s w b

program_read : (list : List Tree) → All ItemRead list → (tokens : List Token) → BornBy (bare 0 (laid (tree.Statements list))) tokens → ReadAgain (tree.Statements list) tokens
program_read list h tokens born =
    let bears : Bears true (y.items (map laid list)) born.front = subst (λ (v : Laid). Bears true (bare 0 v) born.front) (of.of_statements list) born.bears in
    let f : Found (λ S. stmts (g.item S)) (AllLike list) born.front = (body_reads (λ S. g.item S) 0 list (declared.items_each 0 list h) true).found born.front (bears_items (map laid list) true born.front bears) in
    let last = born.last in
    let spelled : g.program (Spells_in f.depth) (born.front ++ last ∷ []) (tree.Statements f.result) =
    (born.front, last ∷ [], f.result, refl, f.spells f.depth (omega arith), (last ∷ [], [], last.span.first, refl, (last, refl, (ap look_of born.ends, refl)), (refl, refl))) in (
      tree.Statements f.result,
      subst (λ (w : List Token). Spells Program w (tree.Statements f.result)) (sym born.whole) (suc f.depth, spelled),
      un.of_statements f.result ∙ ap (λ (zs : List Tree). tree.Statements zs) f.passes ∙ sym (un.of_statements list),
    )

-- ---- the round trip

pub round_trip : RoundTrip
round_trip source w x lexes spells =
    let is = items_of reads closed w x spells (properly.tokens_are_proper source w lexes) in
    let found = layout_has_tokens source w x lexes spells in
    let again : ReadAgain x found.0 = subst (λ (z : Tree). ReadAgain z found.0) (sym is.2) (program_read is.0 is.1 found.0 (subst (λ (z : Tree). BornBy (bare 0 (laid z)) found.0) is.2 found.2)) in
    (found.0, found.1, again)

pub format_is_still : FormatIsStill
format_is_still source w x lexes spells =
    let found = round_trip source w x lexes spells in
    let again = found.2 in
    (found.0, again.0, found.1, again.1, placed.places_leave_no_trace again.0 x again.2)
