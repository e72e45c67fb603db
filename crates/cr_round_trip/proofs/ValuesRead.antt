-- Literals, names and operations are read from their layout.
use Rattle.std.proofs.Common.{◌≡◌, ℕ, suc, Bool, true, false, not, List, [], ◌∷◌, ◌++◌, map, Option, Some, None, refl, sym, ap, subst, ◌∙◌, inl, inr}
use Rattle.std.specs.Prelude.{ℤ, IsTrue}
use Rattle.std.specs.Option.{option_map}
use Rattle.cr_syntax.specs.declared.look.TokenLook.{TokenLook}
use Rattle.cr_syntax.specs.declared.look.TokenLook.TheVariants as l
use Rattle.cr_syntax.specs.declared.token.Token.{Token}
use Rattle.cr_syntax.specs.declared.token.TokenKind.{TokenKind}
use Rattle.cr_syntax.specs.declared.token.TokenKind.TheVariants as k
use Rattle.cr_syntax.specs.Look.{look_of}
use Rattle.cr_grammar.specs.declared.tree.Tree.{Tree}
use Rattle.cr_grammar.specs.declared.tree.Tree.TheVariants as tree
use Rattle.cr_grammar.specs.declared.within.Within.{Within}
use Rattle.cr_grammar.specs.declared.wanted.Wanted.{Wanted}
use Rattle.cr_grammar.specs.Wanted.{in_object}
use Rattle.cr_grammar.specs.Forms.{Form}
use Rattle.cr_grammar.specs.Operators as o
use Rattle.cr_grammar.specs.Expressions as ex
use Rattle.cr_pieces.specs.Pieces.{Piece, Put}
use Rattle.cr_pieces.specs.Fits.{is_newline, spaced_behind}
use Rattle.cr_pretty.specs.Layout as y
use Rattle.cr_pretty.specs.Layout.{Laid, Lay, Plain, laid, bare}
use Rattle.cr_pretty.proofs.Laid as of
use Rattle.cr_round_trip.proofs.Unplaced as un
use Rattle.cr_round_trip.proofs.Reading.{Scheme, Reads, Like, via, then, gives, on_word, on_name, one_token, one_of, other, under}
use Rattle.cr_round_trip.proofs.Values.{Shown, Value, value_by, as_primary}

-- ---- one token

leaf : (within : Within) (x : Tree) (kind : TokenKind) → laid x ≡ Lay Plain (λ level. Put kind ∷ []) → is_newline kind ≡ false → not (o.is_modifier (look_of kind)) ≡ true
    → ((s : Bool) → Reads (λ S. ex.primary S within true) (Like x) s (Put kind ∷ [])) → Value within x
leaf within x kind e closes plain r = value_by within x e (record {
  reads = λ level s. as_primary within (λ S w z f. f) (r s);
  closes = λ level s. closes;
  plain = λ shape level. plain;
})

pub int32_read : (within : Within) (at : ℕ) (n : ℤ) → Value within (tree.Int32 at n)
int32_read within at n = leaf within (tree.Int32 at n) (k.Int32 n) (of.of_int32 at n) refl refl
    (λ s. one_token (k.Int32 n) (λ t. tree.Int32 t.span.first n) (λ S t is. inl (t, refl, inl (n, is, refl))) (λ t. simp (un.constructs)))

pub int64_read : (within : Within) (at : ℕ) (n : ℤ) → Value within (tree.Int64 at n)
int64_read within at n = leaf within (tree.Int64 at n) (k.Int64 n) (of.of_int64 at n) refl refl
    (λ s. one_token (k.Int64 n) (λ t. tree.Int64 t.span.first n) (λ S t is. inl (t, refl, inr (n, is, refl))) (λ t. simp (un.constructs)))

pub text_read : (within : Within) (at : ℕ) (text : List ℕ) → Value within (tree.Text at text)
text_read within at text = leaf within (tree.Text at text) (k.Text text) (of.of_text at text) refl refl
    (λ s. other (one_of (one_of (on_name (λ text. k.Text text) text [] (λ place. gives (tree.Text place text) (simp (un.constructs)))))))

pub nil_read : (within : Within) (at : ℕ) → Value within (tree.Nil at)
nil_read within at = leaf within (tree.Nil at) (k.Plain l.Nil) (of.of_nil at) refl refl
    (λ s. other (other (one_of (one_of (on_word l.Nil [] (λ place. gives (tree.Nil place) (simp (un.constructs))))))))

pub true_read : (within : Within) (at : ℕ) → Value within (tree.True at)
true_read within at = leaf within (tree.True at) (k.Plain l.True) (of.of_true at) refl refl
    (λ s. other (other (one_of (other (one_of (on_word l.True [] (λ place. gives (tree.True place) (simp (un.constructs)))))))))

pub false_read : (within : Within) (at : ℕ) → Value within (tree.False at)
false_read within at = leaf within (tree.False at) (k.Plain l.False) (of.of_false at) refl refl
    (λ s. other (other (one_of (other (other (on_word l.False [] (λ place. gives (tree.False place) (simp (un.constructs)))))))))

pub self_read : (within : Within) (at : ℕ) → IsTrue (in_object within) → Value within (tree.KeywordSelf at)
self_read within at is = leaf within (tree.KeywordSelf at) (k.Plain l.KeywordSelf) (of.of_keyword_self at) refl refl
    (λ s. other (other (other (one_of (under is (on_word l.KeywordSelf [] (λ place. gives (tree.KeywordSelf place) (simp (un.constructs)))))))))

pub variable_read : (within : Within) (at : ℕ) (name : List ℕ) → IsTrue (in_object within) → Value within (tree.InstanceVariable at name)
variable_read within at name is = leaf within (tree.InstanceVariable at name) (k.InstanceVariable name) (of.of_instance_variable at name) refl refl
    (λ s. other (other (other (other (one_of (under is (on_name (λ text. k.InstanceVariable text) name [] (λ place. gives (tree.InstanceVariable place name) (simp (un.constructs))))))))))
