-- Types are read exactly.
use Rattle.std.proofs.Common.{◌≡◌, ℕ, Bool, true, false, List, [], ◌∷◌, map, Option, Some, None, inr, refl}
use Rattle.cr_syntax.specs.declared.look.TokenLook.TheVariants as l
use Rattle.cr_syntax.specs.declared.token.TokenKind.TheVariants as k
use Rattle.cr_grammar.specs.declared.tree.Tree.{Tree}
use Rattle.cr_grammar.specs.declared.tree.Tree.TheVariants as tree
use Rattle.cr_grammar.specs.declared.word.Word.{Word}
use Rattle.cr_grammar.specs.Forms.{Form}
use Rattle.cr_grammar.specs.Forms as f
use Rattle.cr_grammar.specs.declared.wanted.Wanted.{Wanted}
use Rattle.cr_grammar.specs.declared.wanted.Wanted.TheVariants.{Written}
use Rattle.cr_grammar.specs.Laws.{begins_type}
use Rattle.cr_grammar.specs.declared.word.Atom.{Atom}
use Rattle.cr_grammar.specs.declared.word.Path.{Path}
use Rattle.cr_grammar.specs.Expressions as ex
use Rattle.cr_readers.specs.Reader.{Reader, Test, seen, tight_seen, same_look, either, never, expect, choose, many, pure, grow, part, beside, ◌>>◌}
use Rattle.cr_readers.specs.Lists.{listed, parenthesized}
use Rattle.cr_exact.specs.Exact.{at, Effort, Exact, Any}
use Rattle.cr_readers.specs.Words.{constant}
use Rattle.cr_readers.specs.Goes.{goes_type}
use Rattle.cr_readers.specs.Types as types
use Rattle.cr_exact.proofs.TokenTests.{same_look_is, Not, less_seen, not_tight_seen, Less, less_right, less_left, less_never, look_apart, less_tight_seen, not_either, less_either}
use Rattle.cr_exact.proofs.Sequence.{exact_bind, exact_pure, exact_map, exact_goes, weaken}
use Rattle.cr_exact.proofs.Tokens.{exact_word}
use Rattle.cr_exact.proofs.Forms.{spelled_listed, spelled_maybe, spelled_many, spelled_nothing, Spelled, spelled_bind, made_in, same_out, spelled_held}
use Rattle.cr_exact.proofs.Heads.{NoLine, led_word, led_at, first_tested, led, led_seen, first_bind, led_heads}
use Rattle.cr_exact.proofs.Follows.{follows_many, follows_bind, follows_maybe, follows_led, follows_nothing, follows_never, Follows, follows_or, follows_tight}
use Rattle.cr_exact.proofs.Loops.{exact_many}
use Rattle.cr_exact.proofs.Nodes.{IsSilent, exact_silent, silent_grow, exact_part, exact_beside, silent_pure, silent_beside}
use Rattle.cr_exact.proofs.Lists.{tight_parenthesized, tight_heads, exact_listed, exact_maybe_word}
use Rattle.cr_exact.proofs.Lists.{parenthesized_moves}
use Rattle.cr_exact.proofs.Moves.{moves_bind, moves_word, moves_tight}
use Rattle.cr_exact.proofs.Sequence.{never_back}
use Rattle.cr_exact.proofs.Steps.{reads_or_nothing}
use Rattle.cr_descent.proofs.Words.{exact_constant}
use Rattle.cr_descent.proofs.Claims as claims

-- ---- what stands tight, or not at all

-- tight "(" R ")", or not at all
pub exact_tight_or : {effort : Effort} {A : Type 0} {R C : Form A} {g : Test} {p : Reader A} (x : A) → NoLine C → Spelled R → Not l.Newline g → Not l.CloseParenthesis g
    → Exact effort Any R C g p
    → Exact effort Any (f.◌<|>◌ (f.tight (f.parenthesized R)) (f.nothing x)) (f.◌<|>◌ (f.tight (f.parenthesized C)) (f.nothing x)) (tight_seen l.OpenParenthesis)
    (choose (tight_seen l.OpenParenthesis) (parenthesized effort.turns p) (pure x))
exact_tight_or {effort = effort} {R = R} {C = C} {g = g} {p = p} x lineless some line close ep =
    (reads_or_nothing (tight_seen l.OpenParenthesis) x (record { first = tight_heads l.OpenParenthesis (f.parenthesized C) (led_heads l.OpenParenthesis _) })
    (tight_parenthesized effort R C g p ep lineless some.0 some.1 some.2 line close)
    (moves_tight l.OpenParenthesis (parenthesized_moves effort R C g p ep))).0

-- ---- types

abbrev pub one_more : Form Word
one_more = f.◌>>◌ (f.word l.ColonColon) f.constant

abbrev pub path_of : Word → List Word → Path
path_of first more = record { at = first.at; names = first.text ∷ map (λ (x : Word). x.text) more }

abbrev pub rest_of : Word → Form Path
rest_of first = f.◌>>=◌ (f.many one_more) (λ more. f.nothing (path_of first more))

constant_some : Spelled f.constant
constant_some = spelled_held (λ text. k.Constant text)

module _ {effort : Effort} {rec : Wanted → Reader Tree} {S T : Wanted → Form Tree} (given : claims.Given effort rec S T) where
  abbrev pub goes_path : Test
  goes_path = either (seen l.ColonColon) never

  pub exact_path : Exact effort Any ex.path ex.path goes_path (types.path effort.turns rec)
  exact_path =
      exact_bind rest_of rest_of goes_path _ (exact_constant effort never)
      (λ first. exact_silent (grow first.at) (silent_grow first.at) _
      (exact_bind (λ more. f.nothing (path_of first more)) (λ more. f.nothing (path_of first more)) goes_path _
      (exact_many effort (seen l.ColonColon) never (λ look spaced e. refl) one_more one_more (expect l.ColonColon >> constant)
      (weaken _ (exact_bind (λ _. f.constant) (λ _. f.constant) never _ (exact_word effort (k.Plain l.ColonColon) never)
      (λ _. exact_constant effort never) (λ _. constant_some) (λ x. follows_never f.constant never)))
      (λ w x rest c. led_seen l.ColonColon w rest (led_at l.ColonColon w c.0 c.1 c.2 c.3 c.4))
      (moves_bind (moves_word l.ColonColon) (λ _. never_back (exact_constant effort never))))
      (λ more. exact_pure effort (path_of first more) goes_path)
      (λ more. spelled_nothing (path_of first more))
      (λ more. follows_nothing goes_path goes_path (path_of first more) (λ look spaced e. e))))
      (λ first. spelled_bind (spelled_many one_more) (λ more. spelled_nothing (path_of first more)))
      (λ first. follows_never (rest_of first) goes_path)

  -- A type begins with no separator.
  pub no_line : (with_arguments : Bool) → NoLine (T (Written with_arguments))
  no_line with_arguments = first_tested false begins_type (seen l.Newline) (T (Written with_arguments)) (look_apart begins_type l.Newline refl) (given.type_begins with_arguments)

  pub exact_types : Exact effort Any (f.listed (S (Written true))) (f.listed (T (Written true))) (either (seen l.Comma) goes_type)
      (listed effort.turns (part (rec (Written true))))
  exact_types =
      let some = given.some (Written true) in
      exact_listed effort (S (Written true)) (T (Written true)) goes_type (part (rec (Written true))) (exact_part (rec (Written true)) (given.exact (Written true)))
      (no_line true) some.0 some.1 some.2
      (λ look spaced is. rw (same_look_is look l.Comma is) refl)

  pub exact_type_arguments : (with_arguments : Bool)
      → Exact effort Any (ex.type_arguments S with_arguments) (ex.type_arguments T with_arguments) (tight_seen l.OpenParenthesis) (types.type_arguments effort.turns rec with_arguments)
  unfolding same_look
  exact_type_arguments true =
      exact_tight_or [] (first_bind false (seen l.Newline) (T (Written true)) _ (no_line true)) (spelled_listed (given.some (Written true)))
      (λ spaced. refl) (λ spaced. refl) exact_types
  exact_type_arguments false = exact_pure effort [] (tight_seen l.OpenParenthesis)

  abbrev pub goes_question : Test
  goes_question = either (tight_seen l.Question) never

  -- what an atom goes on by
  abbrev pub goes_atom : Test
  goes_atom = either goes_path (either (tight_seen l.OpenParenthesis) goes_question)

  pub question_follows : (g : Test) → g l.Question false ≡ false → Less g goes_atom → (make : Option ℕ → Atom)
      → Follows g (f.◌>>=◌ (f.maybe (f.tight (f.word l.Question))) (λ question. f.nothing (make question))) goes_atom
  question_follows g is less make =
      follows_bind g goes_atom _ _
      (follows_maybe g g _ (λ look spaced e. e) (follows_tight l.Question g g _ is (led_word l.Question)))
      (λ question. follows_nothing g goes_atom (make question) less)

  pub arguments_follow : (with_arguments : Bool) → Follows goes_path (ex.type_arguments T with_arguments) goes_path
  unfolding same_look
  arguments_follow true =
      follows_or goes_path goes_path _ _ (follows_tight l.OpenParenthesis goes_path goes_path _ refl (led l.OpenParenthesis _))
      (follows_nothing goes_path goes_path [] (λ look spaced e. e))
  arguments_follow false = follows_nothing goes_path goes_path [] (λ look spaced e. e)

  arguments_some : (with_arguments : Bool) → Spelled (ex.type_arguments S with_arguments)
  arguments_some true = ([], [], inr (refl, refl))
  arguments_some false = spelled_nothing []

  abbrev pub atom_of : Path → List Tree → Option ℕ → Atom
  atom_of path arguments question = record { path = path; arguments = arguments; question = question }

  question_some : (path : Path) (arguments : List Tree)
      → Spelled (f.◌>>=◌ (f.maybe (f.tight (f.word l.Question))) (λ question. f.nothing (atom_of path arguments question)))
  question_some path arguments = spelled_bind (spelled_maybe _) (λ question. spelled_nothing (atom_of path arguments question))

  pub exact_atom_alone : (with_arguments : Bool) → Exact effort Any (ex.atom S with_arguments) (ex.atom T with_arguments) goes_atom (types.atom effort.turns rec with_arguments)
  unfolding same_look
  exact_atom_alone with_arguments =
      exact_bind _ _ goes_atom _ exact_path
      (λ path. exact_bind _ _ goes_atom _ (exact_type_arguments with_arguments)
      (λ arguments. exact_bind _ _ goes_atom _ (exact_maybe_word effort (k.Plain l.Question))
      (λ question. exact_pure effort (atom_of path arguments question) goes_atom)
      (λ question. spelled_nothing (atom_of path arguments question))
      (λ question. follows_nothing goes_question goes_atom (atom_of path arguments question)
      (less_right goes_question goes_path (either (tight_seen l.OpenParenthesis) goes_question)
      (less_right goes_question (tight_seen l.OpenParenthesis) goes_question (λ look spaced e. e)))))
      (λ arguments. question_some path arguments)
      (λ arguments. question_follows (tight_seen l.OpenParenthesis) refl
      (less_right (tight_seen l.OpenParenthesis) goes_path (either (tight_seen l.OpenParenthesis) goes_question)
      (less_left (tight_seen l.OpenParenthesis) (tight_seen l.OpenParenthesis) goes_question (λ look spaced e. e)))
      (λ question. atom_of path arguments question)))
      (λ path. spelled_bind (arguments_some with_arguments) (λ arguments. question_some path arguments))
      (λ path. follows_bind goes_path goes_atom _ _ (arguments_follow with_arguments)
      (λ arguments. question_follows goes_path refl (less_left goes_path goes_path (either (tight_seen l.OpenParenthesis) goes_question) (λ look spaced e. e))
      (λ question. atom_of path arguments question)))

  pub atom_less : Less goes_atom goes_type
  atom_less =
      less_either goes_path (either (tight_seen l.OpenParenthesis) goes_question) goes_type
      (less_either (seen l.ColonColon) never goes_type (less_seen l.ColonColon goes_type (λ spaced. refl)) (less_never goes_type))
      (less_either (tight_seen l.OpenParenthesis) goes_question goes_type (less_tight_seen l.OpenParenthesis goes_type refl)
      (less_either (tight_seen l.Question) never goes_type (less_tight_seen l.Question goes_type refl) (less_never goes_type)))

  pub exact_atom : claims.Atom effort rec S T
  exact_atom with_arguments = exact_goes goes_type atom_less (exact_atom_alone with_arguments)

  -- ---- the nodes of a type

  silent_question : (question : Option ℕ) → IsSilent (types.question_node effort.turns rec question)
  silent_question None = silent_pure
  silent_question (Some at) = silent_beside (grow at) (silent_grow at)

  pub exact_type_atom : (with_arguments : Bool)
      → Exact effort Any (ex.atom S with_arguments) (ex.atom T with_arguments) goes_atom (types.type_atom effort.turns rec with_arguments)
  exact_type_atom with_arguments =
      exact_map (ex.atom S with_arguments) (ex.atom T with_arguments) (same_out (ex.atom S with_arguments)) (made_in (ex.atom T with_arguments) (λ y. y))
      (exact_bind (λ atom. f.nothing atom) (λ atom. f.nothing atom) goes_atom _ (exact_atom_alone with_arguments)
      (λ atom. exact_silent (types.question_node effort.turns rec atom.question) (silent_question atom.question) (pure atom) (exact_pure effort atom goes_atom))
      (λ atom. spelled_nothing atom)
      (λ atom. follows_nothing goes_atom goes_atom atom (λ look spaced e. e)))

  abbrev pub one_atom : (Wanted → Form Tree) → Bool → Form Atom
  one_atom Q with_arguments = f.◌>>◌ (f.word l.Pipe) (ex.atom Q with_arguments)

  abbrev pub goes_union : Test
  goes_union = either (seen l.Pipe) goes_atom

  pub atom_some : (with_arguments : Bool) → Spelled (ex.atom S with_arguments)
  atom_some with_arguments =
      spelled_bind (spelled_bind constant_some (λ first. spelled_bind (spelled_many _) (λ more. spelled_nothing (path_of first more))))
      (λ path. spelled_bind (arguments_some with_arguments) (λ arguments. question_some path arguments))

  pub pipe_stops : Not l.Pipe goes_atom
  unfolding same_look
  pipe_stops =
      not_either l.Pipe goes_path (either (tight_seen l.OpenParenthesis) goes_question) (λ spaced. refl)
      (not_either l.Pipe (tight_seen l.OpenParenthesis) goes_question (not_tight_seen l.Pipe l.OpenParenthesis refl)
      (not_either l.Pipe (tight_seen l.Question) never (not_tight_seen l.Pipe l.Question refl) (λ spaced. refl)))

  abbrev union_of : Atom → List Atom → Tree
  union_of first more = tree.Union (ex.all_atoms (first ∷ more))

  abbrev pub rest_of_union : (Wanted → Form Tree) → Bool → Atom → Form Tree
  rest_of_union Q with_arguments first = f.◌>>=◌ (f.many (one_atom Q with_arguments)) (λ more. f.nothing (union_of first more))

  exact_atoms : (with_arguments : Bool) → Exact effort Any (f.many (one_atom S with_arguments)) (f.many (one_atom T with_arguments)) goes_union
      (many (seen l.Pipe) (expect l.Pipe >> beside (types.type_atom effort.turns rec with_arguments)) effort.turns)
  unfolding same_look
  exact_atoms with_arguments =
      exact_many effort (seen l.Pipe) goes_atom (λ look spaced is. rw (same_look_is look l.Pipe is) (pipe_stops spaced))
      (one_atom S with_arguments) (one_atom T with_arguments) (expect l.Pipe >> beside (types.type_atom effort.turns rec with_arguments))
      (weaken _ (exact_bind (λ _. ex.atom S with_arguments) (λ _. ex.atom T with_arguments) goes_atom _ (exact_word effort (k.Plain l.Pipe) never)
      (λ _. exact_beside (types.type_atom effort.turns rec with_arguments) (exact_type_atom with_arguments))
      (λ _. atom_some with_arguments) (λ _. follows_never (ex.atom T with_arguments) goes_atom)))
      (λ w x rest c. led_seen l.Pipe w rest (led_at l.Pipe w c.0 c.1 c.2 c.3 c.4))
      (moves_bind (moves_word l.Pipe) (λ _. never_back (exact_beside (types.type_atom effort.turns rec with_arguments) (exact_type_atom with_arguments))))

  pub exact_written : claims.TypeWritten effort rec S T
  unfolding same_look
  exact_written with_arguments =
      exact_goes goes_type (less_either (seen l.Pipe) goes_atom goes_type (less_seen l.Pipe goes_type (λ spaced. refl)) atom_less)
      (exact_bind (rest_of_union S with_arguments) (rest_of_union T with_arguments) goes_union _ (exact_type_atom with_arguments)
      (λ first. exact_bind (λ more. f.nothing (union_of first more)) (λ more. f.nothing (union_of first more)) goes_union _ (exact_atoms with_arguments)
      (λ more. exact_pure effort (union_of first more) goes_union)
      (λ more. spelled_nothing (union_of first more))
      (λ more. follows_nothing goes_union goes_union (union_of first more) (λ look spaced e. e)))
      (λ first. spelled_bind (spelled_many _) (λ more. spelled_nothing (union_of first more)))
      (λ first. follows_bind goes_atom goes_union _ _
      (follows_many goes_atom (one_atom T with_arguments) (follows_led l.Pipe goes_atom goes_atom (one_atom T with_arguments) pipe_stops (led l.Pipe _)))
      (λ more. follows_nothing goes_atom goes_union (union_of first more) (less_right goes_atom (seen l.Pipe) goes_atom (λ look spaced e. e)))))
