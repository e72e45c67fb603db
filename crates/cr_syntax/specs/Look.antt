-- The kind of a token without its name, number or text.
use Rattle.cr_syntax.specs.declared.token.TokenKind.{TokenKind}
use Rattle.cr_syntax.specs.declared.token.TokenKind.TheVariants as k
use Rattle.cr_syntax.specs.declared.look.TokenLook.{TokenLook}
use Rattle.cr_syntax.specs.declared.look.TokenLook.TheVariants as l

abbrev pub look_of : TokenKind → TokenLook
look_of (k.Ident x) = l.Ident
look_of (k.Constant x) = l.Constant
look_of (k.InstanceVariable x) = l.InstanceVariable
look_of (k.Int32 x) = l.Int32
look_of (k.Int64 x) = l.Int64
look_of (k.Text x) = l.Text
look_of (k.TextFirst x) = l.TextFirst
look_of (k.TextMiddle x) = l.TextMiddle
look_of (k.TextLast x) = l.TextLast
look_of (k.Plain look) = look
