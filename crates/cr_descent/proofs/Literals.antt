-- Numbers, texts, arrays and hashes are read exactly.
use Rattle.std.proofs.Common.{◌≡◌, ℕ, Bool, true, false, List, [], ◌∷◌, ◌++◌, map, inl, inr, refl, sym, ap, subst, ◌∙◌}
use Rattle.std.specs.Prelude.{Option}
use Rattle.std.proofs.lemmas.List.{append-nil}
use Rattle.cr_syntax.specs.declared.look.TokenLook.TheVariants as l
use Rattle.cr_syntax.specs.declared.token.Token.{Token}
use Rattle.cr_syntax.specs.declared.token.TokenKind.TheVariants as k
use Rattle.cr_grammar.specs.declared.tree.Tree.{Tree}
use Rattle.cr_grammar.specs.declared.tree.Tree.TheVariants as tree
use Rattle.cr_grammar.specs.declared.within.Within.{Within}
use Rattle.cr_grammar.specs.declared.word.Word.{Word}
use Rattle.cr_grammar.specs.Forms.{Form}
use Rattle.cr_grammar.specs.Forms as f
use Rattle.cr_grammar.specs.declared.wanted.Wanted.{Wanted}
use Rattle.cr_grammar.specs.declared.wanted.Wanted.TheVariants.{Written, Or}
use Rattle.cr_grammar.specs.Laws.{begins_type}
use Rattle.cr_grammar.specs.Expressions as ex
use Rattle.cr_readers.specs.Reader.{Reader, Test, seen, same_look, either, never, expect, holder, many, pure, grow, part, ◌>>=◌, ◌>>◌}
use Rattle.cr_readers.specs.Lists.{optional, unless_closed, separators, listed}
use Rattle.cr_exact.specs.Exact.{Effort, Exact, Any}
use Rattle.cr_readers.specs.Goes.{goes_type, goes_or, goes_primary}
use Rattle.cr_readers.specs.Words.{last_text}
use Rattle.cr_readers.specs.Bodies as bodies
use Rattle.cr_readers.specs.Primaries as primaries
use Rattle.cr_exact.proofs.TokenTests.{Not, seen_apart, less_seen, Less, look_apart, less_either}
use Rattle.cr_exact.proofs.Sequence.{exact_bind, exact_pure, exact_map, weaken}
use Rattle.cr_exact.proofs.Tokens.{exact_word}
use Rattle.cr_exact.proofs.Forms.{bind_out, bind_in, spelled_held, spelled_seps, spelled_word, spelled_maybe, spelled_many, spelled_none, spelled_nothing, Spelled, spelled_bind}
use Rattle.cr_exact.proofs.Heads.{NoLine, Fails, led_at, first_tested, led, led_seen, led_bind, LedBy, led_held, led_first, first_bind}
use Rattle.cr_exact.proofs.Follows.{follows_ahead, follows_many, follows_bind, follows_led, follows_nothing, follows_never, Follows}
use Rattle.cr_exact.proofs.Loops.{exact_many}
use Rattle.cr_exact.proofs.Nodes.{exact_silent, silent_grow, exact_part}
use Rattle.cr_exact.proofs.Lists.{exact_separators, exact_optional, exact_listed}
use Rattle.cr_exact.proofs.Closed.{closed_then, read_then, exact_closed_then, exact_or_closed, empty_or, empty_or_in, exact_or_none}
use Rattle.cr_descent.proofs.Words as words
use Rattle.cr_exact.proofs.Moves.{moves_bind, moves_word, advances_bind, advances_pure}
use Rattle.cr_exact.proofs.Sequence.{never_back}
use Rattle.cr_descent.proofs.Claims as claims
use Rattle.cr_descent.proofs.Bodies.{exact_inside, or_fails}

-- What ends a primary ends a type.
type_less : (free : Bool) → Less goes_type (goes_primary free)
type_less free l.OpenBrace spaced e = refl
type_less free l.Do spaced e = refl
type_less free l.Of spaced e = refl
type_less free other spaced e = e

-- ---- literals

module _ {effort : Effort} {rec : Wanted → Reader Tree} {S T : Wanted → Form Tree} (given : claims.Given effort rec S T) (within : Within) (free : Bool) where
  abbrev turns : ℕ
  turns = effort.turns

  abbrev goes : Test
  goes = goes_primary free

  -- ---- a number

  number_out : (w : List Token) (x : Tree) → f.◌>>=◌ (f.one words.Number) (λ found. f.nothing found.1) w x → ex.number S within free w x
  number_out w x c =
      let token : w ≡ c.4.0 ∷ [] = c.3 ∙ ap (λ (t : List Token). c.0 ++ t) c.5.0 ∙ append-nil c.0 ∙ c.4.1 in
      subst (λ v. ex.number S within free w v) (sym c.5.1) (c.4.0, token, c.4.2.1)

  pub number_back : (w : List Token) (x : Tree) → ex.number T within free w x → f.◌>>=◌ (f.one words.Number) (λ found. f.nothing found.1) w x
  number_back w x c = (w, [], (c.0.span.first, x), sym (append-nil w), (c.0, c.1, (refl, c.2)), (refl, refl))

  pub exact_number_node : Exact effort Any (ex.number S within free) (ex.number T within free) never (primaries.number_node turns rec within free)
  exact_number_node =
      exact_map (ex.number S within free) (ex.number T within free) number_out number_back
      (exact_bind (λ found. f.nothing found.1) (λ found. f.nothing found.1) never _ (words.exact_number effort never)
      (λ found. exact_silent (grow found.0) (silent_grow found.0) (pure found.1) (exact_pure effort found.1 never))
      (λ found. spelled_nothing found.1)
      (λ found. follows_never (f.nothing found.1) never))

  -- ---- texts

  abbrev pub whole_text : Form Tree
  whole_text = f.◌>>=◌ (f.holding (λ text. k.Text text)) (λ text. f.nothing (tree.Text text.at text.text))

  pub exact_text : Exact effort Any whole_text whole_text never (primaries.text turns rec within free)
  exact_text =
      exact_bind (λ (text : Word). f.nothing (tree.Text text.at text.text)) (λ (text : Word). f.nothing (tree.Text text.at text.text)) never _ (words.exact_whole_text effort never)
      (λ text. exact_silent (grow text.at) (silent_grow text.at) _ (exact_pure effort (tree.Text text.at text.text) never))
      (λ text. spelled_nothing (tree.Text text.at text.text))
      (λ text. follows_never (f.nothing (tree.Text text.at text.text)) never)

  pub exact_inserted : Exact effort Any (S (Or within free)) (T (Or within free)) (goes_or free) (primaries.inserted turns rec within free)
  exact_inserted = exact_part (rec (Or within free)) (given.exact (Or within free))

  abbrev part_of : Word → Tree → Tree × List ℕ
  part_of text value = (value, text.text)

  pub exact_part_behind : Exact effort Any (ex.part_behind S within free) (ex.part_behind T within free) (goes_or free) (primaries.part_behind turns rec within free)
  exact_part_behind =
      exact_bind (λ text. f.◌>>=◌ (S (Or within free)) (λ value. f.nothing (part_of text value))) (λ text. f.◌>>=◌ (T (Or within free)) (λ value. f.nothing (part_of text value)))
      (goes_or free) _ (words.exact_middle_text effort never)
      (λ text. exact_bind (λ value. f.nothing (part_of text value)) (λ value. f.nothing (part_of text value)) (goes_or free) _ exact_inserted
      (λ value. exact_pure effort (part_of text value) (goes_or free))
      (λ value. spelled_nothing (part_of text value))
      (λ value. follows_nothing (goes_or free) (goes_or free) (part_of text value) (λ look spaced e. e)))
      (λ text. spelled_bind (given.some (Or within free)) (λ value. spelled_nothing (part_of text value)))
      (λ text. follows_never (f.◌>>=◌ (T (Or within free)) (λ value. f.nothing (part_of text value))) (goes_or free))

  pub led_middle : LedBy l.TextMiddle (ex.part_behind T within free)
  led_middle = led_bind l.TextMiddle (f.holding (λ text. k.TextMiddle text)) _ (led_held (λ text. k.TextMiddle text) l.TextMiddle (λ text. refl))

  abbrev goes_parts : Test
  goes_parts = either (seen l.TextMiddle) (goes_or free)

  exact_parts : Exact effort Any (f.many (ex.part_behind S within free)) (f.many (ex.part_behind T within free)) goes_parts (many (seen l.TextMiddle) (primaries.part_behind turns rec within free) turns)
  exact_parts =
      exact_many effort (seen l.TextMiddle) (goes_or free) (seen_apart l.TextMiddle (goes_or free) (λ spaced. refl)) (ex.part_behind S within free) (ex.part_behind T within free)
      (primaries.part_behind turns rec within free) (weaken _ exact_part_behind) (λ w x rest c. led_seen l.TextMiddle w rest (led_middle w x c))
      (moves_bind (words.middle_moves) (λ text. advances_bind (never_back exact_inserted) (λ value. advances_pure _)))

  abbrev pub insertions_of : Word → Tree → List (Tree × List ℕ) → Word → Tree
  insertions_of first value more last =
      tree.Insertions first.at (first.text ∷ map (λ (x : Tree × List ℕ). x.1) more ++ last.text ∷ []) (value ∷ map (λ (x : Tree × List ℕ). x.0) more)

  abbrev pub last_part : Word → Tree → List (Tree × List ℕ) → Form Tree
  last_part first value more = f.◌>>=◌ (f.holding (λ text. k.TextLast text)) (λ last. f.nothing (insertions_of first value more last))

  abbrev parts_behind : (Wanted → Form Tree) → Word → Tree → Form Tree
  parts_behind Q first value = f.◌>>=◌ (f.many (ex.part_behind Q within free)) (last_part first value)

  abbrev values_behind : (Wanted → Form Tree) → Word → Form Tree
  values_behind Q first = f.◌>>=◌ (Q (Or within free)) (parts_behind Q first)

  pub led_last : (first : Word) (value : Tree) (more : List (Tree × List ℕ)) → LedBy l.TextLast (last_part first value more)
  led_last first value more = led_bind l.TextLast (f.holding (λ text. k.TextLast text)) _ (led_held (λ text. k.TextLast text) l.TextLast (λ text. refl))

  last_some : (first : Word) (value : Tree) (more : List (Tree × List ℕ)) → Spelled (last_part first value more)
  last_some first value more = spelled_bind (spelled_held (λ text. k.TextLast text)) (λ last. spelled_nothing (insertions_of first value more last))

  exact_last : (first : Word) (value : Tree) (more : List (Tree × List ℕ)) → Exact effort Any (last_part first value more) (last_part first value more) never
      (holder last_text >>= λ last. pure (insertions_of first value more last))
  exact_last first value more =
      exact_bind (λ last. f.nothing (insertions_of first value more last)) (λ last. f.nothing (insertions_of first value more last)) never _ (words.exact_last_text effort never)
      (λ last. exact_pure effort (insertions_of first value more last) never)
      (λ last. spelled_nothing (insertions_of first value more last))
      (λ last. follows_never (f.nothing (insertions_of first value more last)) never)

  pub exact_insertions : Exact effort Any (ex.insertions S within free) (ex.insertions T within free) never (primaries.insertions turns rec within free)
  unfolding same_look
  exact_insertions =
      exact_bind (values_behind S) (values_behind T) never _ (words.exact_first_text effort never)
      (λ first. exact_silent (grow first.at) (silent_grow first.at) _
      (exact_bind (parts_behind S first) (parts_behind T first) never _ exact_inserted
      (λ value. exact_bind (last_part first value) (last_part first value) never _ exact_parts
      (λ more. exact_last first value more) (λ more. last_some first value more)
      (λ more. follows_led l.TextLast goes_parts never (last_part first value more) (λ spaced. refl) (led_last first value more)))
      (λ value. spelled_bind (spelled_many _) (λ more. last_some first value more))
      (λ value. follows_bind (goes_or free) never (f.many (ex.part_behind T within free)) (last_part first value)
      (follows_many (goes_or free) (ex.part_behind T within free) (follows_led l.TextMiddle (goes_or free) (goes_or free) (ex.part_behind T within free) (λ spaced. refl) led_middle))
      (λ more. follows_led l.TextLast (goes_or free) never (last_part first value more) (λ spaced. refl) (led_last first value more)))))
      (λ first. spelled_bind (given.some (Or within free)) (λ value. spelled_bind (spelled_many _) (λ more. last_some first value more)))
      (λ first. follows_never (values_behind T first) never)

  -- ---- arrays

  abbrev goes_inside : Test
  goes_inside = either (seen l.Comma) (goes_or true)

  abbrev goes_of : Test
  goes_of = either (seen l.Of) goes_type

  pub of_less : Less goes_of goes
  of_less = less_either (seen l.Of) goes_type goes (less_seen l.Of goes (λ spaced. refl)) (type_less free)

  abbrev element_of : (Wanted → Form Tree) → Form Tree
  element_of Q = f.◌>>◌ (f.word l.Of) (Q (Written true))

  exact_element : Exact effort Any (f.maybe (element_of S)) (f.maybe (element_of T)) goes_of (optional (seen l.Of) (expect l.Of >> part (rec (Written true))))
  exact_element =
      exact_optional effort (element_of S) (element_of T) goes_type (expect l.Of >> part (rec (Written true)))
      (exact_bind (λ _. S (Written true)) (λ _. T (Written true)) goes_type _ (exact_word effort (k.Plain l.Of) never)
      (λ _. exact_part (rec (Written true)) (given.exact (Written true))) (λ _. given.some (Written true)) (λ _. follows_never (T (Written true)) goes_type))
      (seen l.Of) (λ w x rest c. led_seen l.Of w rest (led_at l.Of w c.0 c.1 c.2 c.3 c.4))
      (moves_bind (moves_word l.Of) (λ _. never_back (exact_part (rec (Written true)) (given.exact (Written true)))))

  abbrev elements_behind : (Wanted → Form Tree) → ℕ → List Tree → Form Tree
  elements_behind Q at elements = f.◌>>=◌ (f.maybe (element_of Q)) (λ element. f.nothing (tree.Array at elements element))

  elements_some : (at : ℕ) (elements : List Tree) → Spelled (elements_behind S at elements)
  elements_some at elements = spelled_bind (spelled_maybe _) (λ element. spelled_nothing (tree.Array at elements element))

  exact_elements_behind : (at : ℕ) (elements : List Tree) → Exact effort Any (elements_behind S at elements) (elements_behind T at elements) goes
      (optional (seen l.Of) (expect l.Of >> part (rec (Written true))) >>= λ element. pure (tree.Array at elements element))
  exact_elements_behind at elements =
      exact_bind (λ element. f.nothing (tree.Array at elements element)) (λ element. f.nothing (tree.Array at elements element)) goes _ exact_element
      (λ element. exact_pure effort (tree.Array at elements element) goes)
      (λ element. spelled_nothing (tree.Array at elements element))
      (λ element. follows_nothing goes_of goes (tree.Array at elements element) of_less)

  abbrev array_behind : (Wanted → Form Tree) → ℕ → Form Tree
  array_behind Q at = closed_then (f.or_none (ex.inside Q within free)) (f.word l.CloseBracket) (elements_behind Q at)

  exact_array_behind : (at : ℕ) → Exact effort Any (array_behind S at) (array_behind T at) goes
      (read_then (separators turns) (unless_closed l.CloseBracket (bodies.inside turns rec within)) (expect l.CloseBracket)
      (λ elements. optional (seen l.Of) (expect l.Of >> part (rec (Written true))) >>= λ element. pure (tree.Array at elements element)))
  unfolding same_look
  exact_array_behind at =
      exact_closed_then (f.or_none (ex.inside S within free)) (f.or_none (ex.inside T within free)) (f.word l.CloseBracket) (elements_behind S at) (elements_behind T at) goes
      (separators turns) (unless_closed l.CloseBracket (bodies.inside turns rec within)) (expect l.CloseBracket)
      (λ elements. optional (seen l.Of) (expect l.Of >> part (rec (Written true))) >>= λ element. pure (tree.Array at elements element))
      (exact_or_none effort (ex.inside S within free) (ex.inside T within free) goes_inside (bodies.inside turns rec within) (exact_inside given within free)
      (first_bind false (seen l.Newline) (T (Or within true)) _ (or_fails given within true l.Newline refl)) (λ spaced. refl)
      (k.Plain l.CloseBracket) (λ spaced. refl) (λ e. cc) (first_bind false (seen l.CloseBracket) (T (Or within true)) _ (or_fails given within true l.CloseBracket refl)))
      (exact_elements_behind at) (elements_some at)

  array_some : (at : ℕ) → Spelled (array_behind S at)
  array_some at =
      spelled_bind spelled_seps (λ _. spelled_bind (spelled_none _) (λ elements. spelled_bind spelled_seps (λ _.
      spelled_bind (spelled_word (k.Plain l.CloseBracket)) (λ _. elements_some at elements))))

  pub exact_array : Exact effort Any (ex.array S within free) (ex.array T within free) goes (primaries.array turns rec within free)
  exact_array =
      exact_bind (array_behind S) (array_behind T) goes _ (exact_word effort (k.Plain l.OpenBracket) never)
      (λ at. exact_silent (grow at) (silent_grow at) _ (exact_array_behind at))
      array_some
      (λ at. follows_never (array_behind T at) goes)

  -- ---- hashes

  abbrev pair_of : Tree → Tree → Tree
  pair_of key value = tree.Pair key value

  module _ (R C : Form Tree) (g : Test) (p : Reader Tree) (ep : Exact effort Any R C g p) (ahead : NoLine C) (some : Spelled R) where
    abbrev value_behind : Form Tree → Tree → Form Tree
    value_behind Q key = f.◌>>=◌ Q (λ value. f.nothing (pair_of key value))

    abbrev arrow_behind : Form Tree → Tree → Form Tree
    arrow_behind Q key = f.◌>>=◌ (ex.arrow S within free) (λ _. value_behind Q key)

    exact_value : (key : Tree) → Exact effort Any (value_behind R key) (value_behind C key) g (p >>= λ value. pure (pair_of key value))
    exact_value key =
        exact_bind (λ value. f.nothing (pair_of key value)) (λ value. f.nothing (pair_of key value)) g _ ep
        (λ value. exact_pure effort (pair_of key value) g)
        (λ value. spelled_nothing (pair_of key value))
        (λ value. follows_nothing g g (pair_of key value) (λ look spaced e. e))

    value_some : (key : Tree) → Spelled (value_behind R key)
    value_some key = spelled_bind some (λ value. spelled_nothing (pair_of key value))

    exact_arrow : (key : Tree) → Exact effort Any (arrow_behind R key) (arrow_behind C key) g (expect l.Arrow >> (separators turns >> (p >>= λ value. pure (pair_of key value))))
    exact_arrow key =
        exact_map (arrow_behind R key) (arrow_behind C key)
        (bind_in (f.word l.Arrow) (λ _. f.seps) (λ _. value_behind R key)) (bind_out (f.word l.Arrow) (λ _. f.seps) (λ _. value_behind C key))
        (exact_bind (λ _. f.◌>>◌ f.seps (value_behind R key)) (λ _. f.◌>>◌ f.seps (value_behind C key)) g _ (exact_word effort (k.Plain l.Arrow) never)
        (λ _. exact_bind (λ _. value_behind R key) (λ _. value_behind C key) g _ (exact_separators effort) (λ _. exact_value key) (λ _. value_some key)
        (λ _. follows_ahead (seen l.Newline) g (value_behind C key) (first_bind false (seen l.Newline) C _ ahead)))
        (λ _. spelled_bind spelled_seps (λ _. value_some key))
        (λ _. follows_never (f.◌>>◌ f.seps (value_behind C key)) g))

    pair_end_some : (key : Tree) → Spelled (arrow_behind R key)
    pair_end_some key = spelled_bind (spelled_bind (spelled_word (k.Plain l.Arrow)) (λ _. spelled_seps)) (λ _. value_some key)

    pub exact_pair : Not l.Arrow g → Exact effort Any (ex.pair S within free R) (ex.pair T within free C) g (primaries.pair turns rec within free p)
    exact_pair stops =
        exact_bind (arrow_behind R) (arrow_behind C) g _ ep exact_arrow pair_end_some
        (λ key. follows_led l.Arrow g g (arrow_behind C key) stops
        (led_bind l.Arrow (ex.arrow T within free) (λ _. value_behind C key) (led l.Arrow (λ _. f.seps))))

  pub pair_some : (R : Form Tree) → Spelled R → Spelled (ex.pair S within free R)
  pair_some R some =
      spelled_bind some (λ key. spelled_bind (spelled_bind (spelled_word (k.Plain l.Arrow)) (λ _. spelled_seps)) (λ _. spelled_bind some (λ value. spelled_nothing (pair_of key value))))

  abbrev goes_pairs : Test
  goes_pairs = either (seen l.Comma) (goes_or free)

  abbrev pairs_of : (Wanted → Form Tree) → Form (List Tree)
  pairs_of Q = f.listed (ex.pair Q within free (Q (Or within free)))

  pub exact_pairs : Exact effort Any (pairs_of S) (pairs_of T) goes_pairs (listed turns (primaries.pair turns rec within free (part (rec (Or within free)))))
  exact_pairs =
      let first = pair_some (S (Or within free)) (given.some (Or within free)) in
      exact_listed effort (ex.pair S within free (S (Or within free))) (ex.pair T within free (T (Or within free))) (goes_or free)
      (primaries.pair turns rec within free (part (rec (Or within free))))
      (exact_pair (S (Or within free)) (T (Or within free)) (goes_or free) (part (rec (Or within free))) exact_inserted (or_fails given within free l.Newline refl) (given.some (Or within free)) (λ spaced. refl))
      (first_bind false (seen l.Newline) (T (Or within free)) _ (or_fails given within free l.Newline refl)) first.0 first.1 first.2
      (seen_apart l.Comma (goes_or free) (λ spaced. refl))

  abbrev entry_of : (Wanted → Form Tree) → Form Tree
  entry_of Q = f.◌>>◌ (f.word l.Of) (ex.pair Q within free (Q (Written true)))

  abbrev read_entry : Reader (Option Tree)
  read_entry = optional (seen l.Of) (expect l.Of >> primaries.pair turns rec within free (part (rec (Written true))))

  exact_entry_pair : Exact effort Any (ex.pair S within free (S (Written true))) (ex.pair T within free (T (Written true))) goes_type (primaries.pair turns rec within free (part (rec (Written true))))
  exact_entry_pair =
      exact_pair (S (Written true)) (T (Written true)) goes_type (part (rec (Written true))) (exact_part (rec (Written true)) (given.exact (Written true)))
      (first_tested false begins_type (seen l.Newline) (T (Written true)) (look_apart begins_type l.Newline refl) (given.type_begins true)) (given.some (Written true)) (λ spaced. refl)

  exact_entry : Exact effort Any (f.maybe (entry_of S)) (f.maybe (entry_of T)) goes_of read_entry
  exact_entry =
      exact_optional effort (entry_of S) (entry_of T) goes_type (expect l.Of >> primaries.pair turns rec within free (part (rec (Written true))))
      (exact_bind (λ _. ex.pair S within free (S (Written true))) (λ _. ex.pair T within free (T (Written true))) goes_type _ (exact_word effort (k.Plain l.Of) never)
      (λ _. exact_entry_pair)
      (λ _. pair_some (S (Written true)) (given.some (Written true))) (λ _. follows_never (ex.pair T within free (T (Written true))) goes_type))
      (seen l.Of) (λ w x rest c. led_seen l.Of w rest (led_at l.Of w c.0 c.1 c.2 c.3 c.4)) (moves_bind (moves_word l.Of) (λ _. never_back exact_entry_pair))

  abbrev hash_end : (Wanted → Form Tree) → ℕ → List Tree → Form Tree
  hash_end Q at entries = f.◌>>◌ (f.word l.CloseBrace) (f.◌>>=◌ (f.maybe (entry_of Q)) (λ entry. f.nothing (tree.Hash at entries entry)))

  abbrev read_hash_end : ℕ → List Tree → Reader Tree
  read_hash_end at entries = expect l.CloseBrace >> (read_entry >>= λ entry. pure (tree.Hash at entries entry))

  hash_end_some : (at : ℕ) (entries : List Tree) → Spelled (hash_end S at entries)
  hash_end_some at entries = spelled_bind (spelled_word (k.Plain l.CloseBrace)) (λ _. spelled_bind (spelled_maybe _) (λ entry. spelled_nothing (tree.Hash at entries entry)))

  exact_hash_end : (at : ℕ) (entries : List Tree) → Exact effort Any (hash_end S at entries) (hash_end T at entries) goes (read_hash_end at entries)
  exact_hash_end at entries =
      let hash_of : Option Tree → Form Tree = λ entry. f.nothing (tree.Hash at entries entry) in
      exact_bind (λ _. f.◌>>=◌ (f.maybe (entry_of S)) hash_of) (λ _. f.◌>>=◌ (f.maybe (entry_of T)) hash_of) goes _ (exact_word effort (k.Plain l.CloseBrace) never)
      (λ _. exact_bind hash_of hash_of goes _ exact_entry
      (λ entry. exact_pure effort (tree.Hash at entries entry) goes)
      (λ entry. spelled_nothing (tree.Hash at entries entry))
      (λ entry. follows_nothing goes_of goes (tree.Hash at entries entry) of_less))
      (λ _. spelled_bind (spelled_maybe _) (λ entry. spelled_nothing (tree.Hash at entries entry)))
      (λ _. follows_never (f.◌>>=◌ (f.maybe (entry_of T)) hash_of) goes)

  abbrev entries_of : (Wanted → Form Tree) → ℕ → Form Tree
  entries_of Q at = f.◌>>=◌ (f.or_none (pairs_of Q)) (hash_end Q at)

  exact_entries : (at : ℕ) → Exact effort Any (entries_of S at) (entries_of T at) goes
      (unless_closed l.CloseBrace (listed turns (primaries.pair turns rec within free (part (rec (Or within free))))) >>= read_hash_end at)
  unfolding same_look
  exact_entries at =
      exact_or_closed (k.Plain l.CloseBrace) (pairs_of S) (pairs_of T) goes_pairs _ (hash_end S at) (hash_end T at) goes (read_hash_end at)
      exact_pairs (exact_hash_end at) (hash_end_some at) (λ entries. led l.CloseBrace _) (λ spaced. refl)
      (first_bind false (seen l.CloseBrace) (ex.pair T within free (T (Or within free))) _ (first_bind false (seen l.CloseBrace) (T (Or within free)) _ (or_fails given within free l.CloseBrace refl)))

  -- Entries, or the brace that closes them, begin with no separator.
  once_ahead : (at : ℕ) → Fails (seen l.Newline) (empty_or (pairs_of T) (hash_end T at))
  unfolding same_look
  once_ahead at w x rest (inl c) = led_first false l.CloseBrace (seen l.Newline) (λ spaced. refl) w rest (led_at l.CloseBrace w c.0 c.1 c.2 c.3 c.4)
  once_ahead at w x rest (inr c) =
      first_bind false (seen l.Newline) (pairs_of T) (hash_end T at)
      (first_bind false (seen l.Newline) (ex.pair T within free (T (Or within free))) _ (first_bind false (seen l.Newline) (T (Or within free)) _ (or_fails given within free l.Newline refl))) w x rest c

  pub entries_follow : (at : ℕ) → Follows (seen l.Newline) (entries_of T at) goes
  entries_follow at w x rest c stop = once_ahead at w x rest (empty_or_in (pairs_of T) (hash_end T at) w x c)

  entries_some : (at : ℕ) → Spelled (entries_of S at)
  entries_some at = spelled_bind (spelled_none _) (λ entries. hash_end_some at entries)

  abbrev hash_behind : (Wanted → Form Tree) → ℕ → Form Tree
  hash_behind Q at = f.◌>>◌ f.seps (entries_of Q at)

  pub exact_hash : Exact effort Any (ex.hash S within free) (ex.hash T within free) goes (primaries.hash turns rec within free)
  exact_hash =
      exact_bind (hash_behind S) (hash_behind T) goes _ (exact_word effort (k.Plain l.OpenBrace) never)
      (λ at. exact_silent (grow at) (silent_grow at) _
      (exact_bind (λ _. entries_of S at) (λ _. entries_of T at) goes _ (exact_separators effort) (λ _. exact_entries at) (λ _. entries_some at) (λ _. entries_follow at)))
      (λ at. spelled_bind spelled_seps (λ _. entries_some at))
      (λ at. follows_never (hash_behind T at) goes)
