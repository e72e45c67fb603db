-- What parts and steps are in pieces. It carries proofs inside alone.
use Rattle.std.specs.Prelude.{ℕ, suc, if◌then◌else◌, List, [], ◌∷◌, ◌++◌, map}
use Rattle.std.specs.Option.{option_map}
use Rattle.cr_syntax.specs.declared.look.TokenLook.TheVariants as l
use Rattle.cr_syntax.specs.declared.token.TokenKind.TheVariants as k
use Rattle.cr_syntax.specs.Words.{is_digit, begins}
use Rattle.cr_grammar.specs.Operators as o
use Rattle.cr_pieces.specs.Pieces.{Piece, Put}
use Rattle.cr_pretty.specs.declared.manner.Manner.{Manner}
use Rattle.cr_pretty.specs.declared.manner.Manner.TheVariants as manner
use Rattle.cr_pretty.specs.declared.step.Step.{Step}
use Rattle.cr_pretty.specs.declared.step.Step.TheVariants as step
use Rattle.cr_pretty.specs.declared.part.Part.{Part}
use Rattle.cr_pretty.specs.declared.part.Part.TheVariants as part
use Rattle.cr_pretty.specs.Layout as y
use Rattle.cr_pretty.specs.Layout.{Laid, laid, word, space}

-- what stands between two constructs of a list
abbrev pub between : Manner → List Piece
between manner.Arguments = y.comma
between manner.Listed = y.comma
between manner.Atoms = y.bar
between manner.Path = word l.ColonColon ∷ []

-- a construct of a list
abbrev pub placed : Manner → ℕ → Laid → List Piece
placed manner.Arguments level x = y.argument level x
placed other level x = y.bare level x

abbrev pub constants : List (List ℕ) → List (List Piece)
constants names = map (λ name. Put (k.Constant name) ∷ []) names

-- bytes in parentheses where a digit comes first
abbrev pub digit_enclosed : List ℕ → List ℕ
digit_enclosed bytes = if begins is_digit bytes then 40 ∷ (bytes ++ 41 ∷ []) else bytes

abbrev pub step_pieces : ℕ → Step → List Piece
step_pieces level step.Nothing = []
step_pieces level step.Space = space ∷ []
step_pieces level step.Line = y.line level
step_pieces level (step.Word look) = word look ∷ []
step_pieces level (step.Name name) = Put (k.Ident name.now) ∷ []
step_pieces level (step.Constant name) = Put (k.Constant name.now) ∷ []
step_pieces level (step.Variable name) = Put (k.InstanceVariable name.now) ∷ []
step_pieces level (step.MethodName name) = y.method_name name.now
step_pieces level step.New = Put (k.Ident o.new_name) ∷ []
step_pieces level step.Fiber = Put (k.Constant o.fiber_name) ∷ []
step_pieces level (step.Int32 value) = Put (k.Int32 value) ∷ []
step_pieces level (step.Int64 value) = Put (k.Int64 value) ∷ []
step_pieces level (step.Text text) = Put (k.Text text.now) ∷ []
step_pieces level (step.Insertions parts inserted) = y.text_parts level parts.now (map laid inserted.now)
step_pieces level (step.Bare x) = y.bare level (laid x.now)
step_pieces level (step.Operand x) = y.operand level (laid x.now)
step_pieces level (step.Argument x) = y.argument level (laid x.now)
step_pieces level (step.Given x) = y.given level (laid x.now)
step_pieces level (step.Negated x) = y.negated (y.operand level (laid x.now))
step_pieces level (step.Arguments list) = y.listed (map (y.argument level) (map laid list.now))
step_pieces level (step.Listed list) = y.listed (map (y.bare level) (map laid list.now))
step_pieces level (step.Atoms list) = y.joined y.bar (map (y.bare level) (map laid list.now))
step_pieces level (step.Path names) = y.joined (word l.ColonColon ∷ []) (constants names.now)
step_pieces level (step.Constants names) = y.listed (constants names.now)
step_pieces level (step.Program list) = y.items (map laid list.now)
step_pieces level (step.Lines list) = y.lines (suc level) (map laid list.now)
step_pieces level (step.Clauses list) = y.lines level (map laid list.now)

abbrev pub all_steps : ℕ → List Step → List Piece
all_steps level [] = []
all_steps level (s ∷ ss) = step_pieces level s ++ all_steps level ss

abbrev pub part_pieces : ℕ → Part → List Piece
part_pieces level part.Nothing = []
part_pieces level part.Space = space ∷ []
part_pieces level (part.Word look) = word look ∷ []
part_pieces level (part.Name name) = Put (k.Ident name.now) ∷ []
part_pieces level (part.Constant name) = Put (k.Constant name.now) ∷ []
part_pieces level (part.Variable name) = Put (k.InstanceVariable name.now) ∷ []
part_pieces level part.New = Put (k.Ident o.new_name) ∷ []
part_pieces level part.Fiber = Put (k.Constant o.fiber_name) ∷ []
part_pieces level (part.Parameter instance name) = Put (y.parameter_kind instance name.now) ∷ []
part_pieces level (part.MethodName name) = y.method_name name.now
part_pieces level (part.Int32 value) = Put (k.Int32 value) ∷ []
part_pieces level (part.Int64 value) = Put (k.Int64 value) ∷ []
part_pieces level (part.Text text) = Put (k.Text text.now) ∷ []
part_pieces level (part.Insertions parts inserted) = y.text_parts level parts.now (map laid inserted.now)
part_pieces level (part.Bare x) = y.bare level (laid x.now)
part_pieces level (part.Operand x) = y.operand level (laid x.now)
part_pieces level (part.Argument x) = y.argument level (laid x.now)
part_pieces level (part.Prefixed operator x) = y.unary operator (y.operand level (laid x.now))
part_pieces level (part.Receiver x) = y.receiver level (option_map laid x.now)
part_pieces level (part.Block x) = y.block level (option_map laid x.now)
part_pieces level (part.Restriction x) = y.restriction level (option_map laid x.now)
part_pieces level (part.OfType x) = y.of_type level (option_map laid x.now)
part_pieces level (part.Gift x) = y.gift level (option_map laid x.now)
part_pieces level (part.ReceivedAs x) = y.received_as level (option_map laid x.now)
part_pieces level (part.Superclass name) = y.superclass_of name.now
part_pieces level (part.Question question) = y.question_mark question
part_pieces level (part.Arguments list) = y.arguments level (map laid list.now)
part_pieces level (part.Listed list) = y.listed (map (y.argument level) (map laid list.now))
part_pieces level (part.ListedBare list) = y.listed (map (y.bare level) (map laid list.now))
part_pieces level (part.Parenthesized list) = y.in_parentheses (map (y.bare level) (map laid list.now))
part_pieces level (part.BlockParameters list) = y.block_parameters level (map laid list.now)
part_pieces level (part.Atoms list) = y.joined y.bar (map (y.bare level) (map laid list.now))
part_pieces level (part.Path names) = y.joined (word l.ColonColon ∷ []) (constants names.now)
part_pieces level (part.Constants names) = y.in_parentheses (constants names.now)
part_pieces level (part.Program list) = y.items (map laid list.now)
part_pieces level (part.Lines list) = y.lines (suc level) (map laid list.now)
part_pieces level (part.Clauses list) = y.lines level (map laid list.now)
part_pieces level (part.Else list) = y.else_lines level (option_map (map laid) list.now)
part_pieces level part.End = y.end_line level

abbrev pub all_pieces : ℕ → List Part → List Piece
all_pieces level [] = []
all_pieces level (p ∷ ps) = part_pieces level p ++ all_pieces level ps
