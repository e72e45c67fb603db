-- What begins an argument behind a name begins a value, if it is clear.
use Rattle.std.proofs.Common.{◌≡◌, Bool, true, false, ◌&&◌, ◌||◌, List, [], ◌∷◌, refl}
use Rattle.std.specs.Prelude.{not}
use Rattle.cr_syntax.specs.declared.look.TokenLook.{TokenLook}
use Rattle.cr_syntax.specs.declared.look.TokenLook.TheVariants as l
use Rattle.cr_syntax.specs.declared.token.Token.{Token}
use Rattle.cr_syntax.specs.Look.{look_of}
use Rattle.cr_grammar.specs.declared.within.Within.{Within}
use Rattle.cr_grammar.specs.Laws.{begins_or}
use Rattle.cr_grammar.specs.Operators as o
use Rattle.cr_readers.specs.Reader.{passes}
use Rattle.cr_exact.specs.Exact.{Clear, scoped}

either_value : (b : Bool) → b || false ≡ true → b ≡ true
either_value true is = refl
either_value false is = absurd cc

regroup : (b m s n : Bool) → b || ((m && s) && n) ≡ true → b || (m && (s && n)) ≡ true
regroup b true s n is = is
regroup b false s n is = is

no_more : (b c : Bool) → b || false ≡ true → b || (c && false) ≡ true
no_more true c is = refl
no_more false c is = absurd cc

-- What begins an argument, and may do so here, begins a value.
value_look : (within : Within) (look : TokenLook) (spaced sign : Bool) → (spaced && o.begins_value look) || (o.is_minus look && sign) ≡ true → scoped look spaced ≡ false → begins_or within look ≡ true
value_look within l.Yield true sign is clear = absurd cc
value_look within l.Yield false sign is clear = absurd cc
value_look within l.Super true sign is clear = absurd cc
value_look within l.Super false sign is clear = absurd cc
value_look within l.KeywordSelf true sign is clear = absurd cc
value_look within l.KeywordSelf false sign is clear = absurd cc
value_look within l.InstanceVariable true sign is clear = absurd cc
value_look within l.InstanceVariable false sign is clear = absurd cc
value_look within l.Minus spaced sign is clear = refl
value_look within l.OpenBrace spaced sign is clear = refl
value_look within l.Spawn spaced sign is clear = refl
value_look within l.If spaced sign is clear = refl
value_look within l.Unless spaced sign is clear = refl
value_look within l.While spaced sign is clear = refl
value_look within l.Until spaced sign is clear = refl
value_look within l.Case spaced sign is clear = refl
value_look within l.Select spaced sign is clear = refl
value_look within other true sign is clear = either_value (o.begins_value other) is
value_look within other false sign is clear = absurd cc

pub argument_value : (within : Within) (ts : List Token) → o.begins_argument ts ≡ true → Clear ts → passes (λ found _. begins_or within found) ts ≡ true
argument_value within [] is clear = absurd cc
argument_value within (t ∷ []) is clear = value_look within (look_of t.kind) t.spaced false (no_more (t.spaced && o.begins_value (look_of t.kind)) (o.is_minus (look_of t.kind)) is) clear.0
argument_value within (t ∷ u ∷ ts) is clear = value_look within (look_of t.kind) t.spaced (t.spaced && not u.spaced) (regroup (t.spaced && o.begins_value (look_of t.kind)) (o.is_minus (look_of t.kind)) t.spaced (not u.spaced) is) clear.0
