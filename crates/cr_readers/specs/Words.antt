-- Readers of the tokens that hold a name, a number or a text.
use Rattle.std.specs.Prelude.{ℕ, Bool, false, List, Option, Some, None}
use Rattle.std.specs.Str.{bytes_eq}
use Rattle.cr_syntax.specs.declared.token.Token.{Token}
use Rattle.cr_syntax.specs.declared.token.TokenKind.{TokenKind}
use Rattle.cr_syntax.specs.declared.token.TokenKind.TheVariants as k
use Rattle.cr_grammar.specs.declared.word.Word.{Word}
use Rattle.cr_grammar.specs.declared.tree.Tree.{Tree}
use Rattle.cr_grammar.specs.declared.tree.Tree.TheVariants as tree
use Rattle.cr_readers.specs.Reader.{Reader, place_if, take, holder}

abbrev pub ident_text : TokenKind → Option (List ℕ)
ident_text (k.Ident text) = Some text
ident_text other = None

abbrev pub constant_text : TokenKind → Option (List ℕ)
constant_text (k.Constant text) = Some text
constant_text other = None

abbrev pub variable_text : TokenKind → Option (List ℕ)
variable_text (k.InstanceVariable text) = Some text
variable_text other = None

abbrev pub whole_text : TokenKind → Option (List ℕ)
whole_text (k.Text text) = Some text
whole_text other = None

abbrev pub first_text : TokenKind → Option (List ℕ)
first_text (k.TextFirst text) = Some text
first_text other = None

abbrev pub middle_text : TokenKind → Option (List ℕ)
middle_text (k.TextMiddle text) = Some text
middle_text other = None

abbrev pub last_text : TokenKind → Option (List ℕ)
last_text (k.TextLast text) = Some text
last_text other = None

abbrev pub ident : Reader Word
ident = holder ident_text

abbrev pub constant : Reader Word
constant = holder constant_text

abbrev pub instance_variable : Reader Word
instance_variable = holder variable_text

-- whether a token is the name `text`
abbrev pub is_ident : List ℕ → TokenKind → Bool
is_ident text (k.Ident found) = bytes_eq found text
is_ident text other = false

-- the name `text` alone, with its place
abbrev pub exactly_ident : List ℕ → Reader ℕ
exactly_ident text = take (λ t. place_if (is_ident text t.kind) t)

abbrev pub number_of : Token → TokenKind → Option (ℕ × Tree)
number_of t (k.Int32 n) = Some (t.span.first, tree.Int32 t.span.first n)
number_of t (k.Int64 n) = Some (t.span.first, tree.Int64 t.span.first n)
number_of t other = None

-- a number and its place
abbrev pub number : Reader (ℕ × Tree)
number = take (λ t. number_of t t.kind)
