-- Operators and the ends of lines are read from their bytes.
use Rattle.std.proofs.Common.{◌≡◌, ℕ, zero, suc, ◌<◌, Bool, true, false, not, ◌&&◌, cond, ◌==◌, List, [], ◌∷◌, ◌++◌, length, take, Ok, Some, None, refl, ap, subst, ◌∙◌, arith}
use Rattle.std.specs.Str.{bytes_eq}
use Rattle.std.specs.List.{list_any}
use Rattle.std.specs.Map.{lookup}
use Rattle.std.specs.Option.{option_map}
use Rattle.std.proofs.Math.Seq.{take-append_seam}
use Rattle.std.proofs.lemmas.List.{length-append, length-take-le}
use Rattle.std.proofs.lemmas.Bool.{and_parts, or_parts, not-true, lt-ltb, both_ways, eq-eqb}
use Rattle.std.proofs.lemmas.Slice.Eq.{bytes_eq-Decides}
use Rattle.cr_syntax.specs.declared.look.TokenLook.{TokenLook}
use Rattle.cr_syntax.specs.declared.token.TokenKind.TheVariants as k
use Rattle.cr_syntax.specs.Words.{is_digit, begins}
use Rattle.cr_syntax.specs.Operators.{operators, operator_look}
use Rattle.cr_syntax.specs.Lexes.{Before, in_insertion, takes_minus}
use Rattle.cr_lex.specs.Longest.{IsLongest}
use Rattle.cr_lex.specs.Words.{begins_content, operator_form}
use Rattle.cr_lex.specs.Step.{begins_operator}
use Rattle.cr_lex.proofs.Dispatch.{by_operator}
use Rattle.cr_pieces.specs.Bytes.{is_gap, ends_line, ascii}
use Rattle.cr_pieces.specs.Pieces.{spelled}
use Rattle.cr_pieces.specs.Fits.{is_newline_look, is_front, is_longer, operator_stands}
use Rattle.cr_pieces.proofs.Joined.{ascii_utf8}
use Rattle.cr_pieces.proofs.Read.{IsRead}

front_take : (n : ℕ) (xs : List ℕ) → is_front (take n xs) xs ≡ true
front_take zero xs = refl
front_take (suc n) [] = refl
front_take (suc n) (x ∷ xs) = let same = eq-eqb x x refl in rw same (front_take n xs)

-- no entry is a longer front, so this one is in no entry
none_longer : (text after longer : List ℕ) (table : List (List ℕ × TokenLook)) → length text < length longer → is_front longer (text ++ after) ≡ true
    → list_any (is_longer text after) table ≡ false → lookup (bytes_eq longer) table ≡ None
none_longer text after longer [] more front e = refl
none_longer text after longer (entry ∷ entries) more front e =
    let both = or_parts (is_longer text after entry) (list_any (is_longer text after) entries) e in
    by_test (bytes_eq longer entry.0) refl both.0 (none_longer text after longer entries more front both.1)
  where
    by_test : (t : Bool) → bytes_eq longer entry.0 ≡ t → is_longer text after entry ≡ false → lookup (bytes_eq longer) entries ≡ None → cond t (Some entry.1) (lookup (bytes_eq longer) entries) ≡ None
    by_test false is none rest = rest
    by_test true is none rest =
        let same : longer ≡ entry.0 = (bytes_eq-Decides longer entry.0).0 is in
        let is_more = lt-ltb (length text) (length longer) more in
        let yes : is_longer text after (longer, entry.1) ≡ true = rw (is_more, front) refl in
        absurd (both_ways (is_longer text after entry) none (subst (λ (bytes : List ℕ). is_longer text after (bytes, entry.1) ≡ true) same yes))

pub operator_longest : (b : ℕ) (bs after : List ℕ) (found : TokenLook) → operator_look (b ∷ bs) ≡ Some found → list_any (is_longer (b ∷ bs) after) operators ≡ false
    → IsLongest (operator_form b) (bs ++ after) (length bs) (k.Plain found)
operator_longest b bs after found is none = record {
  within = omega (arith, length-append bs after);
  here = ap (λ (text : List ℕ). option_map k.Plain (operator_look (b ∷ text))) (take-append_seam bs after) ∙ ap (option_map k.Plain) is;
  longest = λ m above within. ap (option_map k.Plain) (none_longer (b ∷ bs) after (b ∷ take m (bs ++ after)) operators
      (let long : length (take m (bs ++ after)) ≡ m = length-take-le m (bs ++ after) within in omega arith) (front_take (suc m) (b ∷ (bs ++ after))) none);
}

and_both : (x y : Bool) → x ≡ true → y ≡ true → (x && y) ≡ true
and_both true true p q = refl
and_both true false p q = q
and_both false y p q = p

not_so : (x : Bool) → x ≡ false → not x ≡ true
not_so false e = refl
not_so true e = absurd cc

pub operator_read : (before : Before) (s : Bool) (look : TokenLook) (after : List ℕ) (b : ℕ) (bs : List ℕ) → spelled (k.Plain look) ≡ b ∷ bs
    → is_gap b ≡ false → ascii (b ∷ bs) ≡ true → ends_line (b ∷ bs) ≡ is_newline_look look → begins_content b ≡ false → operator_look (b ∷ bs) ≡ Some look
    → operator_stands before s b bs after ≡ true → IsRead before s (k.Plain look) after
operator_read before s look after b bs are solid low ends content is e =
    let parts = and_parts (not (list_any (is_longer (b ∷ bs) after) operators)) (not (b == 125 && in_insertion before) && not (b == 45 && (begins is_digit (bs ++ after) && takes_minus before s))) e in
    let operator : begins_operator before s b (bs ++ after) ≡ true =
    and_both (not (begins_content b)) (not (b == 125 && in_insertion before) && not (b == 45 && (begins is_digit (bs ++ after) && takes_minus before s))) (not_so (begins_content b) content) parts.1 in record {
      head = b;
      rest = bs;
      are = are;
      solid = solid;
      utf8 = ascii_utf8 (spelled (k.Plain look)) (ap ascii are ∙ low);
      ends = ap ends_line are ∙ ends;
      longest = by_operator before s 0 b (bs ++ after) (Ok (k.Plain look, length bs)) operator
          (operator_longest b bs after look is (not-true (list_any (is_longer (b ∷ bs) after) operators) parts.0));
    }
