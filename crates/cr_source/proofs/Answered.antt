-- Each source has an answer: its tokens are decided, or it has a fault of tokens, which is no want of memory.
use Rattle.std.specs.Prelude.{◌&&◌, ◌||◌, ◌==◌, if◌then◌else◌, take, drop, is_some, unwrap_or}
use Rattle.std.specs.Str.Lossy.{utf8_valid_len}
use Rattle.std.proofs.Common.{◌≢◌, ◌+◌, ◌-◌, ℕ, Bool, true, false, List, [], ◌∷◌, Result, Ok, Err, ◌⊎◌, inl, inr, refl, sym, subst}
use Rattle.cr_syntax.specs.declared.token.Token.{Token}
use Rattle.cr_syntax.specs.declared.fault.LexFault.{LexFault}
use Rattle.cr_syntax.specs.declared.fault.LexFault.TheVariants as lex
use Rattle.cr_syntax.specs.Words.{is_digit}
use Rattle.cr_syntax.specs.Texts.{escape}
use Rattle.cr_syntax.specs.Lexes.{Before, behind, place_of, outermost, in_insertion, Lexes}
use Rattle.cr_syntax.specs.Faults.{text_fault, fault_at, FailsFrom, lex_fault}
use Rattle.cr_syntax.specs.Laws.{AlwaysOne}
use Rattle.cr_grammar.specs.declared.tree.Tree.{Tree}
use Rattle.cr_readers.specs.declared.fault.ParseFault.{ParseFault}
use Rattle.cr_readers.specs.declared.fault.ParseFault.TheVariants as parse
use Rattle.cr_descent.specs.Programs.{AnswersProgram, TokensEndOnce}
use Rattle.cr_steady.specs.Laws.{ProgramIsDecided}
use Rattle.cr_source.specs.declared.fault.Code.{Code}
use Rattle.cr_source.specs.declared.fault.Code.TheVariants as code
use Rattle.cr_source.specs.Source.{IsSource, IsRefused}
use Rattle.cr_source.specs.Laws.{EachSourceIsAnswered}

-- ---- a fault of tokens is no want of memory

abbrev Tells : LexFault → Type 0
Tells lex.NoMemory = ⊥
Tells other = Unit {0}

tells_if : (b : Bool) (f g : LexFault) → Tells f → Tells g → Tells (if b then f else g)
tells_if true f g x y = x
tells_if false f g x y = y

text_tells : (quote : ℕ) (escaped : Bool) (at : ℕ) (bytes : List ℕ) → Tells (text_fault quote escaped at bytes)
text_tells quote true at [] = tt
text_tells quote false at [] = tt
text_tells quote true at (b ∷ bs) = tells_if (is_some (escape b)) (text_fault quote false (at + 1) bs) (lex.BadEscape (at - 1)) (text_tells quote false (at + 1) bs) tt
text_tells quote false at (b ∷ bs) = text_tells quote (b == 92) (at + 1) bs

place_tells : (before : Before) (place : ℕ) (bytes : List ℕ) → Tells (fault_at before place bytes)
place_tells before place [] = tt
place_tells before place (b ∷ bs) =
    let quote = unwrap_or (outermost before.nesting) place in
    tells_if (b == 34 || (b == 125 && in_insertion before)) (text_fault quote false (place + 1) bs)
    (if is_digit b || b == 45 then lex.BadNumber place else lex.BadByte place) (text_tells quote false (place + 1) bs)
    (tells_if (is_digit b || b == 45) (lex.BadNumber place) (lex.BadByte place) tt tt)

fails_tells : (source : List ℕ) (before : Before) (at : ℕ) (ts : List Token) (f : LexFault) → FailsFrom source before at ts f → Tells f
fails_tells source before at [] f is = subst Tells (sym is.fault) (place_tells before (place_of source at) (drop (place_of source at) source))
fails_tells source before at (t ∷ ts) f is = fails_tells source (behind before t) t.span.past ts f is.1

lex_tells : (source : List ℕ) (f : LexFault) → lex_fault source f → Tells f
lex_tells source f (inl (utf8, (ts, fails))) = fails_tells source _ 0 ts f fails
lex_tells source f (inr (other, inl ((ts, fails), closed))) = fails_tells (take (utf8_valid_len source) source) _ 0 ts f fails
lex_tells source f (inr (other, inr (is, front))) = subst Tells (sym is) tt

-- ---- answers

abbrev IsAnswered : List ℕ → Type 0
IsAnswered source = ((x : Tree) × IsSource source x) ⊎ ((code : Code) × (at : ℕ) × IsRefused source code at)

for_tokens : (source : List ℕ) (f : LexFault) → lex_fault source f → Tells f → IsAnswered source
for_tokens source (lex.NotUtf8 at) fault tells = inr (code.NotUtf8, at, fault)
for_tokens source (lex.BadByte at) fault tells = inr (code.BadByte, at, fault)
for_tokens source (lex.OpenString at) fault tells = inr (code.OpenString, at, fault)
for_tokens source (lex.BadEscape at) fault tells = inr (code.BadEscape, at, fault)
for_tokens source (lex.BadNumber at) fault tells = inr (code.BadNumber, at, fault)
for_tokens source lex.NoMemory fault tells = absurd tells

for_grammar : (source : List ℕ) (list : List Token) (r : Result Tree ParseFault) → Lexes source list → r ≢ Err parse.NoMemory → AnswersProgram list r → IsAnswered source
for_grammar source list (Ok x) lexed other answer = inl (x, record { tokens = list; lexed = lexed; program = answer })
for_grammar source list (Err (parse.Unexpected at)) lexed other answer = inr (code.Unexpected, at, record { tokens = list; lexed = lexed; holds = answer })
for_grammar source list (Err (parse.TooDeep at)) lexed other answer = inr (code.TooDeep, at, record { tokens = list; lexed = lexed; holds = answer })
for_grammar source list (Err (parse.TooManyNodes at)) lexed other answer = inr (code.TooManyNodes, at, record { tokens = list; lexed = lexed; holds = answer })
for_grammar source list (Err parse.NoMemory) lexed other answer = absurd (other refl)

pub each_answered : AlwaysOne → TokensEndOnce → ProgramIsDecided → EachSourceIsAnswered
each_answered one once decided source = elim (one source) [
  | inl (list, lexed) ↦ (let d = decided list (once source list lexed) in for_grammar source list d.0 lexed d.1 d.2)
  | inr (f, fault) ↦ for_tokens source f fault (lex_tells source f fault)
]
