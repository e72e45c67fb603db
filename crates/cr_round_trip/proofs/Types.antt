-- What types, blocks, clauses and declarations are written as fits.
use Rattle.std.proofs.Common.{◌≡◌, ℕ, suc, Bool, true, false, not, ◌&&◌, ◌==◌, List, [], ◌∷◌, ◌++◌, map, Option, Some, None, refl, sym, ap, subst, ◌∙◌}
use Rattle.std.specs.Option.{option_map}
use Rattle.std.proofs.lemmas.Bool.{and_parts, not-true}
use Rattle.cr_syntax.specs.declared.look.TokenLook.TheVariants as l
use Rattle.cr_syntax.specs.declared.token.TokenKind.TheVariants as k
use Rattle.cr_syntax.specs.Words.{is_word_byte, begins}
use Rattle.cr_syntax.specs.Lexes.{Before, ends_operand}
use Rattle.cr_grammar.specs.declared.tree.Tree.{Tree}
use Rattle.cr_grammar.specs.declared.tree.Tree.TheVariants as tree
use Rattle.cr_grammar.specs.Operators as o
use Rattle.cr_pieces.specs.Pieces.{Piece, Put, text_of}
use Rattle.cr_pieces.specs.Proper.{IsName, IsConstantName, IsVariableName}
use Rattle.cr_pieces.specs.Fits.{put_behind, stands, Fits}
use Rattle.cr_pretty.specs.Layout as y
use Rattle.cr_pretty.specs.Layout.{Laid, laid, word, space, bare, operand, argument}
use Rattle.cr_pretty.proofs.Laid as of
use Rattle.cr_round_trip.proofs.Stops.{stop, opens, Ready, constant_ends}
use Rattle.cr_round_trip.proofs.Words as w
use Rattle.cr_round_trip.proofs.Known.{All, Any, IsPath, IsAnyConstant, IsBlockName}
use Rattle.cr_round_trip.proofs.Fit.{Keeps, Fit, Tail, Next, keeps_append, pieces_assoc, pieces_nil, text_assoc, with_tail, no_tail, word_fit, opener_fit, opener_last, opener_tail, opener_end, word_tail, parenthesized_fit, then, sign_tail, tail_next, next_from, open_text}
use Rattle.cr_round_trip.proofs.Listed.{Lays, bars, commas, joined_keep, joined_fit, body_tail, lines_last, bare_fit, in_parentheses_tail}
use Rattle.cr_round_trip.proofs.Names.{ident_fit, dot_ident, constant_fit, variable_fit, constant_opens}
use Rattle.cr_round_trip.proofs.Constructs.{lays, as_operand, call_tail, BlockLays}

-- ---- `: T`

pub restriction_tail : (x : Option Tree) (level : ℕ) (qs : List Piece) → Any Lays x → Tail qs → Tail (y.restriction level (option_map laid x) ++ qs)
restriction_tail None level qs held tail = tail
restriction_tail (Some x) level qs held tail = opener_tail l.Colon (bare level (laid x)) qs w.colon_opener (held level) tail

restriction_last : (x : Option Tree) (level : ℕ) → Any Lays x → Tail (y.restriction level (option_map laid x))
restriction_last x level held = subst Tail (pieces_nil (y.restriction level (option_map laid x))) (restriction_tail x level [] held no_tail)

-- ---- classes and types

-- the names of a path behind its first
more_names : (names : List (List ℕ)) (qs : List Piece) → All IsConstantName names → Tail qs → Tail (y.more_joined (word l.ColonColon ∷ []) (map (λ name. Put (k.Constant name) ∷ []) names) ++ qs)
more_names [] qs held tail = tail
more_names (name ∷ names) qs held tail =
    let rest = more_names names qs held.1 tail in
    let one = constant_fit name (y.more_joined (word l.ColonColon ∷ []) (map (λ name. Put (k.Constant name) ∷ []) names) ++ qs) held.0 rest in record {
      fits = λ before s after e. (tt, refl, one.fits (put_behind before (k.Plain l.ColonColon)) false after refl e);
      keeps = λ before. one.keeps (put_behind before (k.Plain l.ColonColon));
      stops = λ after e. refl;
    }

atom_fit : (path : List (List ℕ)) (xs : List Tree) (level : ℕ) (qs : List Piece) → IsPath path → All Lays xs → Tail qs
    → Fit ((y.joined (word l.ColonColon ∷ []) (map (λ name. Put (k.Constant name) ∷ []) path) ++ y.in_parentheses (map (bare level) (map laid xs))) ++ qs)
atom_fit [] xs level qs is held tail = absurd is
atom_fit (name ∷ names) xs level qs is held tail =
    let more = y.more_joined (word l.ColonColon ∷ []) (map (λ name. Put (k.Constant name) ∷ []) names) in
    let arguments = y.in_parentheses (map (bare level) (map laid xs)) in
    subst (λ (v : List Piece). Fit (Put (k.Constant name) ∷ v)) (sym (pieces_assoc more arguments qs))
    (constant_fit name (more ++ (arguments ++ qs)) is.0 (more_names names (arguments ++ qs) is.1 (in_parentheses_tail (map (bare level) (map laid xs)) qs (bare_fit xs level held) tail)))

pub atom_lays : (at : ℕ) (path : List (List ℕ)) (xs : List Tree) → IsPath path → All Lays xs → Lays (tree.Atom at path xs)
atom_lays at path xs is held = lays (tree.Atom at path xs) (of.of_atom at path xs) (λ level. subst Fit (pieces_nil _) (atom_fit path xs level [] is held no_tail))

pub union_lays : (x : Tree) (xs : List Tree) → Lays x → All Lays xs → Lays (tree.Union (x ∷ xs))
union_lays x xs first held = lays (tree.Union (x ∷ xs)) (of.of_union (x ∷ xs)) (λ level.
    let pss = map (bare level) (map laid xs) in
    let ps = bare level (laid x) in
    with_tail ps (y.more_joined y.bar pss) (first level) (more_bars pss (bare_fit xs level held)))
  where
    more_bars : (pss : List (List Piece)) → All Fit pss → Tail (y.more_joined y.bar pss)
    more_bars [] held = no_tail
    more_bars (ps ∷ pss) held = opener_tail l.Pipe ps (y.more_joined y.bar pss) w.pipe_opener held.0 (more_bars pss held.1)

-- ---- blocks

pub parameter_lays : (at : ℕ) (instance : Bool) (name : List ℕ) (type : Option Tree) → (instance ≡ true → IsVariableName name) → (instance ≡ false → IsName name) → Any Lays type → Lays (tree.Parameter at instance name type)
parameter_lays at true name type variable ident held = lays (tree.Parameter at true name type) (of.of_parameter at true name type) (λ level. variable_fit name (y.restriction level (option_map laid type)) (variable refl) (restriction_last type level held))
parameter_lays at false name type variable ident held = lays (tree.Parameter at false name type) (of.of_parameter at false name type) (λ level. ident_fit name (y.restriction level (option_map laid type)) (ident refl) (restriction_last type level held))

block_name_lays : (x : Tree) → IsBlockName x → Lays x
block_name_lays x p = subst Lays (sym p.is) (parameter_lays p.at false p.name None (λ no. absurd cc) (λ is. p.proper) tt)

names_lay : (xs : List Tree) → All IsBlockName xs → All Lays xs
names_lay [] held = tt
names_lay (x ∷ xs) held = (block_name_lays x held.0, names_lay xs held.1)

pipe_stands : (before : Before) (s : Bool) (after : List ℕ) → opens after ≡ true → stands before s (k.Plain l.Pipe) after ≡ true
pipe_stands before s [] e = absurd cc
pipe_stands before s (b ∷ bs) e = let no = not-true (124 == b) (and_parts (not (61 == b)) (not (124 == b)) e).1 in rw no refl

-- the names of a block between `|`, in front of a new line
names_tail : (xs : List Tree) (level : ℕ) (qs : List Piece) → All Lays xs → Tail qs → ((after : List ℕ) → opens (text_of qs ++ after) ≡ true) → Tail (y.block_parameters level (map laid xs) ++ qs)
names_tail [] level qs held tail opening = tail
names_tail (x ∷ xs) level qs held tail opening =
    let pss = map (bare level) (map laid (x ∷ xs)) in
    let ps = y.listed pss in
    let more = y.more_joined y.comma (map (bare level) (map laid xs)) in
    let same : (ps ++ word l.Pipe ∷ []) ++ qs ≡ ps ++ (word l.Pipe ∷ qs) = pieces_assoc ps (word l.Pipe ∷ []) qs in
    let held' : All Fit pss = bare_fit (x ∷ xs) level held in
    let fit : Keeps ((ps ++ word l.Pipe ∷ []) ++ qs) = subst Keeps (sym same) (keeps_append ps (word l.Pipe ∷ qs) (joined_keep y.comma commas pss held') (λ b. tail.keeps (put_behind b (k.Plain l.Pipe)))) in record {
      fits = λ before s after e. (
        tt,
        pipe_stands before true (text_of ((ps ++ word l.Pipe ∷ []) ++ qs) ++ after) (first_opens (bare level (laid x)) more qs after (held.0 level)),
        subst (λ (v : List Piece). Fits (put_behind before (k.Plain l.Pipe)) false v after) (sym same)
            (joined_fit y.comma commas pss held' (put_behind before (k.Plain l.Pipe)) false (word l.Pipe ∷ qs) after refl refl
            (λ b t kept. (tt, pipe_stands b t (text_of qs ++ after) (opening after), tail.fits (put_behind b (k.Plain l.Pipe)) false after e))),
      );
      keeps = λ before. fit (put_behind before (k.Plain l.Pipe));
      stops = λ after e. refl;
    }
  where
    first_opens : (ps more qs : List Piece) (after : List ℕ) → Fit ps → opens (text_of (((ps ++ more) ++ word l.Pipe ∷ []) ++ qs) ++ after) ≡ true
    first_opens ps more qs after fit =
        subst (λ (v : List Piece). opens (text_of v ++ after) ≡ true) (sym (pieces_assoc (ps ++ more) (word l.Pipe ∷ []) qs ∙ pieces_assoc ps more (word l.Pipe ∷ qs)))
        (subst (λ (v : List ℕ). opens v ≡ true) (text_assoc ps (more ++ (word l.Pipe ∷ qs)) after) (fit.opening (text_of (more ++ (word l.Pipe ∷ qs)) ++ after)))

body_opens : (list : List Tree) (level : ℕ) (after : List ℕ) → opens (text_of (y.body level (map laid list)) ++ after) ≡ true
body_opens [] level after = refl
body_opens (x ∷ xs) level after = refl

pub block_lays : (parameters list : List Tree) → All IsBlockName parameters → All Lays list → BlockLays (tree.Block parameters list)
block_lays parameters list names held level =
    subst (λ (v : Laid). Tail (space ∷ bare level v)) (sym (of.of_block parameters list))
    (word_tail l.Do (y.block_parameters level (map laid parameters) ++ y.body level (map laid list)) w.do_word
    (names_tail parameters level (y.body level (map laid list)) (names_lay parameters names) (body_tail list level held) (body_opens list level)))

-- ---- clauses

more_commas : (pss : List (List Piece)) (qs : List Piece) → All Fit pss → Tail qs → Tail (y.more_joined y.comma pss ++ qs)
more_commas [] qs held tail = tail
more_commas (ps ∷ pss) qs held tail =
    let more = y.more_joined y.comma pss in
    let rest : Tail (more ++ qs) = more_commas pss qs held.1 tail in
    let whole : Fit (ps ++ (more ++ qs)) = with_tail ps (more ++ qs) held.0 rest in
    subst (λ (v : List Piece). Tail (word l.Comma ∷ space ∷ v)) (sym (pieces_assoc ps more qs)) (record {
      fits = λ before s after e. (tt, refl, whole.fits (put_behind before (k.Plain l.Comma)) true after refl e);
      keeps = λ before. whole.keeps (put_behind before (k.Plain l.Comma));
      stops = λ after e. refl;
    })

pub in_lays : (at : ℕ) (type : Tree) (types list : List Tree) → Lays type → All Lays types → All Lays list → Lays (tree.In at (type ∷ types) list)
in_lays at type types list first more held = lays (tree.In at (type ∷ types) list) (of.of_in at (type ∷ types) list) (λ level.
    let ps = bare level (laid type) in
    let pss = y.more_joined y.comma (map (bare level) (map laid types)) in
    let qs = y.lines (suc level) (map laid list) in
    subst (λ (v : List Piece). Fit (word l.In ∷ space ∷ v)) (sym (pieces_assoc ps pss qs))
    (opener_fit l.In ps (pss ++ qs) w.in_opener (λ after. refl) (first level) (more_commas (map (bare level) (map laid types)) qs (bare_fit types level more) (lines_last list (suc level) held))))

-- ---- declarations

pub accessor_lays : (at : ℕ) (name : List ℕ) (type : Option Tree) → IsName name → Any Lays type → Lays (tree.Accessor at name type)
accessor_lays at name type is held = lays (tree.Accessor at name type) (of.of_accessor at name type) (λ level. ident_fit name (y.restriction level (option_map laid type)) is (restriction_last type level held))

pub declaration_lays : (at : ℕ) (name : List ℕ) (type : Tree) → IsVariableName name → Lays type → Lays (tree.Declaration at name type)
declaration_lays at name type is held = lays (tree.Declaration at name type) (of.of_declaration at name type) (λ level.
    variable_fit name (space ∷ word l.Colon ∷ space ∷ bare level (laid type)) is (opener_end l.Colon (bare level (laid type)) w.colon_opener (held level)))

pub accessors_lays : (at : ℕ) (property : Bool) (x : Tree) (xs : List Tree) → Lays x → All Lays xs → Lays (tree.Accessors at property (x ∷ xs))
accessors_lays at property x xs first held = lays (tree.Accessors at property (x ∷ xs)) (of.of_accessors at property (x ∷ xs)) (λ level.
    let pss = map (bare level) (map laid xs) in
    opener_fit (y.accessor_look property) (bare level (laid x)) (y.more_joined y.comma pss) (w.accessor_opener property) (w.accessor_opens property) (first level)
    (subst Tail (pieces_nil (y.more_joined y.comma pss)) (more_commas pss [] (bare_fit xs level held) no_tail)))

pub include_lays : (at : ℕ) (name : List ℕ) → IsConstantName name → Lays (tree.Include at name)
include_lays at name is = lays (tree.Include at name) (of.of_include at name) (λ level. opener_last l.Include (Put (k.Constant name) ∷ []) w.include_opener (λ after. refl) (constant_fit name [] is no_tail))

pub module_lays : (at : ℕ) (name : List ℕ) (members : List Tree) → IsConstantName name → All Lays members → Lays (tree.Module at name members)
module_lays at name members is held = lays (tree.Module at name members) (of.of_module at name members) (λ level.
    opener_last l.Module (Put (k.Constant name) ∷ y.body level (map laid members)) w.module_opener (λ after. refl) (constant_fit name (y.body level (map laid members)) is (body_tail members level held)))

constants_fit : (names : List (List ℕ)) → All IsConstantName names → All Fit (map (λ name. Put (k.Constant name) ∷ []) names)
constants_fit [] is = tt
constants_fit (name ∷ names) is = (constant_fit name [] is.0 no_tail, constants_fit names is.1)

superclass_tail : (superclass : Option (List ℕ)) (qs : List Piece) → IsAnyConstant superclass → Tail qs → Tail (y.superclass_of superclass ++ qs)
superclass_tail None qs is tail = tail
superclass_tail (Some name) qs is tail =
    let one = constant_fit name qs is tail in record {
      fits = λ before s after e. (tt, refl, one.fits (put_behind before (k.Plain l.Less)) true after refl e);
      keeps = λ before. one.keeps (put_behind before (k.Plain l.Less));
      stops = λ after e. refl;
    }

pub class_lays : (at : ℕ) (name : List ℕ) (parameters : List (List ℕ)) (superclass : Option (List ℕ)) (members : List Tree) → IsConstantName name → All IsConstantName parameters → IsAnyConstant superclass → All Lays members
    → Lays (tree.Class at name parameters superclass members)
class_lays at name parameters superclass members is are above held = lays (tree.Class at name parameters superclass members) (of.of_class at name parameters superclass members) (λ level.
    let ends = y.superclass_of superclass ++ y.body level (map laid members) in
    let pss = map (λ parameter. Put (k.Constant parameter) ∷ []) parameters in
    opener_last l.Class (Put (k.Constant name) ∷ (y.in_parentheses pss ++ ends)) w.class_opener (λ after. refl)
    (constant_fit name (y.in_parentheses pss ++ ends) is (in_parentheses_tail pss ends (constants_fit parameters are) (superclass_tail superclass (y.body level (map laid members)) above (body_tail members level held)))))

-- ---- what is asked of a value, and what is made

pub is_a_lays : (at : ℕ) (x type : Tree) → Lays x → Lays type → Lays (tree.IsA at x type)
is_a_lays at x type held of_it = lays (tree.IsA at x type) (of.of_is_a at x type) (λ level.
    let ps = bare level (laid type) in
    with_tail (operand level (laid x)) (word l.Dot ∷ word l.IsA ∷ y.parenthesized ps) (as_operand x held level) (record {
      fits = λ before s after e. (tt, refl, (tt, refl, (parenthesized_fit ps (of_it level)).fits (put_behind (put_behind before (k.Plain l.Dot)) (k.Plain l.IsA)) false after refl e));
      keeps = λ before. (parenthesized_fit ps (of_it level)).keeps (put_behind (put_behind before (k.Plain l.Dot)) (k.Plain l.IsA));
      stops = λ after e. refl;
    }))

new_tail : (xs : List Tree) (b : Option Tree) (level : ℕ) → All Lays xs → Any BlockLays b → Tail (word l.Dot ∷ Put (k.Ident o.new_name) ∷ (y.arguments level (map laid xs) ++ y.block level (option_map laid b)))
new_tail xs b level held block = dot_ident o.new_name (y.arguments level (map laid xs) ++ y.block level (option_map laid b)) (refl, refl, refl) (call_tail xs b level held block)

pub pause_lays : (at : ℕ) → Lays (tree.Pause at)
pause_lays at = lays (tree.Pause at) (of.of_pause at) (λ level. constant_fit o.fiber_name (word l.Dot ∷ word l.Yield ∷ []) (refl, refl) (record {
  fits = λ before s after e. (tt, refl, (tt, w.yield_word.standing (put_behind before (k.Plain l.Dot)) false after e, tt));
  keeps = λ before. refl;
  stops = λ after e. refl;
}))

-- ---- a class in front of `new`

-- What may stand behind a class: no letter, digit or `_` begins it.
record Behind (ps : List Piece) : Type 0 where
  fits : (before : Before) (s : Bool) (after : List ℕ) → stop after ≡ true → Fits before s ps after
  keeps : Keeps ps
  apart : (after : List ℕ) → not (begins is_word_byte (text_of ps ++ after)) ≡ true

behind_tail : (ps : List Piece) → Tail ps → ((after : List ℕ) → not (begins is_word_byte (text_of ps ++ after)) ≡ true) → Behind ps
behind_tail ps tail apart = record { fits = tail.fits; keeps = tail.keeps; apart = apart }

asked : (qs : List Piece) → Tail qs → Behind (word l.Question ∷ qs)
asked qs tail = record {
  fits = λ before s after e. (tt, refl, tail.fits (put_behind before (k.Plain l.Question)) false after e);
  keeps = λ before. tail.keeps (put_behind before (k.Plain l.Question));
  apart = λ after. refl;
}

constant_behind : (name : List ℕ) (qs : List Piece) → IsConstantName name → Behind qs → Fit (Put (k.Constant name) ∷ qs)
constant_behind [] qs is tail = absurd is
constant_behind (c ∷ cs) qs is tail = record {
  fits = λ before s after ready e. (is, tail.apart after, tail.fits (put_behind before (k.Constant (c ∷ cs))) false after e);
  keeps = λ before. tail.keeps (put_behind before (k.Constant (c ∷ cs)));
  opening = λ after. constant_opens c ((cs ++ text_of qs) ++ after) is.0;
}

more_behind : (names : List (List ℕ)) (qs : List Piece) → All IsConstantName names → Behind qs → Behind (y.more_joined (word l.ColonColon ∷ []) (map (λ name. Put (k.Constant name) ∷ []) names) ++ qs)
more_behind [] qs held tail = tail
more_behind (name ∷ names) qs held tail =
    let one = constant_behind name (y.more_joined (word l.ColonColon ∷ []) (map (λ name. Put (k.Constant name) ∷ []) names) ++ qs) held.0 (more_behind names qs held.1 tail) in record {
      fits = λ before s after e. (tt, refl, one.fits (put_behind before (k.Plain l.ColonColon)) false after refl e);
      keeps = λ before. one.keeps (put_behind before (k.Plain l.ColonColon));
      apart = λ after. refl;
    }

arguments_behind : (xs : List Tree) (level : ℕ) (qs : List Piece) → All Lays xs → Behind qs → Behind (y.in_parentheses (map (bare level) (map laid xs)) ++ qs)
arguments_behind [] level qs held tail = tail
arguments_behind (x ∷ xs) level qs held tail =
    let pss = map (bare level) (map laid (x ∷ xs)) in
    let ps = y.listed pss in
    let same : (ps ++ word l.CloseParenthesis ∷ []) ++ qs ≡ ps ++ (word l.CloseParenthesis ∷ qs) = pieces_assoc ps (word l.CloseParenthesis ∷ []) qs in record {
      fits = λ before s after e. (
        tt,
        refl,
        subst (λ (v : List Piece). Fits (put_behind before (k.Plain l.OpenParenthesis)) false v after) (sym same)
            (joined_fit y.comma commas pss (bare_fit (x ∷ xs) level held) (put_behind before (k.Plain l.OpenParenthesis)) false (word l.CloseParenthesis ∷ qs) after refl refl
            (λ b t kept. (tt, refl, tail.fits (put_behind b (k.Plain l.CloseParenthesis)) false after e))),
      );
      keeps = λ before. subst Keeps (sym same) (keeps_append ps (word l.CloseParenthesis ∷ qs) (joined_keep y.comma commas pss (bare_fit (x ∷ xs) level held)) (λ b. tail.keeps (put_behind b (k.Plain l.CloseParenthesis)))) (put_behind before (k.Plain l.OpenParenthesis));
      apart = λ after. refl;
    }

class_fit : (path : List (List ℕ)) (xs : List Tree) (level : ℕ) (qs : List Piece) → IsPath path → All Lays xs → Behind qs
    → Fit ((y.joined (word l.ColonColon ∷ []) (map (λ name. Put (k.Constant name) ∷ []) path) ++ y.in_parentheses (map (bare level) (map laid xs))) ++ qs)
class_fit [] xs level qs is held tail = absurd is
class_fit (name ∷ names) xs level qs is held tail =
    let more = y.more_joined (word l.ColonColon ∷ []) (map (λ name. Put (k.Constant name) ∷ []) names) in
    let arguments = y.in_parentheses (map (bare level) (map laid xs)) in
    subst (λ (v : List Piece). Fit (Put (k.Constant name) ∷ v)) (sym (pieces_assoc more arguments qs))
    (constant_behind name (more ++ (arguments ++ qs)) is.0 (more_behind names (arguments ++ qs) is.1 (arguments_behind xs level qs held tail)))

pub new_lays : (at place : ℕ) (path : List (List ℕ)) (xs : List Tree) (question : Bool) (list : List Tree) (b : Option Tree) → IsPath path → All Lays xs → All Lays list → Any BlockLays b
    → Lays (tree.New at (tree.Atom place path xs) question list b)
new_lays at place path xs question list b is held args block = lays (tree.New at (tree.Atom place path xs) question list b) (of.of_new at (tree.Atom place path xs) question list b) (λ level.
    let qs = word l.Dot ∷ Put (k.Ident o.new_name) ∷ (y.arguments level (map laid list) ++ y.block level (option_map laid b)) in
    subst (λ (v : Laid). Fit (bare level v ++ (y.question_mark question ++ qs))) (sym (of.of_atom place path xs))
    (class_fit path xs level (y.question_mark question ++ qs) is held (by_question question (Put (k.Ident o.new_name) ∷ (y.arguments level (map laid list) ++ y.block level (option_map laid b))) (new_tail list b level args block))))
  where
    by_question : (q : Bool) (qs : List Piece) → Tail (word l.Dot ∷ qs) → Behind (y.question_mark q ++ (word l.Dot ∷ qs))
    by_question true qs tail = asked (word l.Dot ∷ qs) tail
    by_question false qs tail = behind_tail (word l.Dot ∷ qs) tail (λ after. refl)

-- ---- the clauses of `select`

pub when_lays : (at : ℕ) (target : Option Tree) (operation : Tree) (list : List Tree) → Any Lays target → Lays operation → All Lays list → Lays (tree.When at target operation list)
when_lays at None operation list t op held = lays (tree.When at None operation list) (of.of_when at None operation list) (λ level.
    opener_fit l.When (bare level (laid operation)) (y.lines (suc level) (map laid list)) w.when_opener (λ after. refl) (op level) (lines_last list (suc level) held))
when_lays at (Some x) operation list t op held = lays (tree.When at (Some x) operation list) (of.of_when at (Some x) operation list) (λ level.
    let qs = bare level (laid operation) ++ y.lines (suc level) (map laid list) in
    subst (λ (v : List Piece). Fit (word l.When ∷ space ∷ v)) (sym (pieces_assoc (bare level (laid x)) (space ∷ word l.Equal ∷ space ∷ []) qs))
    (opener_fit l.When (bare level (laid x)) (space ∷ word l.Equal ∷ space ∷ qs) w.when_opener (λ after. refl) (t level)
    (opener_tail l.Equal (bare level (laid operation)) (y.lines (suc level) (map laid list)) w.equal_opener (op level) (lines_last list (suc level) held))))

-- ---- a program

-- The items of a program fit from the start of a source on, and leave nothing open.
pub items_fit : (xs : List Tree) → All Lays xs → (before : Before) → before.last ≡ l.Newline → Fits before true (y.items (map laid xs)) []
items_fit [] held before last = tt
items_fit (x ∷ xs) held before last =
    then (bare 0 (laid x)) (word l.Newline ∷ y.items (map laid xs)) before true [] (held.0 0) (ap ends_operand last) refl
    (λ b t kept. (tt, refl, items_fit xs held.1 (put_behind b (k.Plain l.Newline)) refl))

pub items_keep : (xs : List Tree) → All Lays xs → Keeps (y.items (map laid xs))
items_keep [] held = λ before. refl
items_keep (x ∷ xs) held = keeps_append (bare 0 (laid x)) (word l.Newline ∷ y.items (map laid xs)) (held.0 0).keeps (λ b. items_keep xs held.1 (put_behind b (k.Plain l.Newline)))
