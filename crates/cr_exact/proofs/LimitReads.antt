-- What is counted by readers that are chained by what they begin with.
use Rattle.std.proofs.Common.{◌≡◌, true, false, List, ◌++◌, ap, ◌∙◌, ℕ, ◌+◌, Bool, Option, sym}
use Rattle.cr_syntax.specs.declared.look.TokenLook.{TokenLook}
use Rattle.cr_syntax.specs.declared.look.TokenLook.TheVariants as l
use Rattle.cr_syntax.specs.declared.token.Token.{Token}
use Rattle.cr_syntax.specs.declared.token.TokenKind.{TokenKind}
use Rattle.cr_grammar.specs.declared.word.Word.{Word}
use Rattle.cr_grammar.specs.Forms.{Form, nothing}
use Rattle.cr_grammar.specs.Forms as f
use Rattle.cr_readers.specs.Reader.{Reader, Test, passes, never, choose, pure, ◌>>=◌, holder, grow, ◌>>◌, seen, either}
use Rattle.cr_readers.specs.Lists.{listed, stmts}
use Rattle.cr_exact.specs.Exact.{Effort, Any, Exact}
use Rattle.cr_exact.specs.Limits.{Tally, Counts, Still, known, unknown, Rises, size_of_all, top_of_all}
use Rattle.cr_exact.proofs.TokenTests.{never_stops, At, seen_apart}
use Rattle.cr_exact.proofs.Tokens.{Passing, Failing}
use Rattle.cr_exact.proofs.Steps.{Reads, Begins, Starts}
use Rattle.cr_exact.proofs.Limits.{counts_bind, counts_silent, counts_weaken, counts_pure}
use Rattle.cr_exact.proofs.LimitSteps.{counts_grown}
use Rattle.cr_exact.proofs.LimitChoices.{counts_choose, passing_same, failing_same}
use Rattle.cr_exact.proofs.LimitLists.{counts_free, rises_listed_parts, rises_stmts}

-- where the second always begins with a token by which the first does not go on
pub counts_then : {effort : Effort} {A B : Type 0} {R C : Form A} {g : Test} {p : Reader A} {D : A → Form B} {h : Test} {q : A → Reader B} {from : Tally} {mid : A → Tally} {to : B → Tally}
    → Reads effort R C g p → Counts Any C g from mid p → ((x : A) → Counts Any (D x) h (mid x) to (q x)) → ((x : A) → Begins g (D x))
    → Counts Any (f.◌>>=◌ C D) h from to (p >>= q)
counts_then {D = D} {h = h} {q = q} {to = to} first cp cq begins =
    counts_bind D h q to first.0 cp cq (λ x b y rest d stop. (begins x).first b y rest d)

-- where the first counts nothing
pub counts_past : {effort : Effort} {A B : Type 0} {R C : Form A} {g : Test} {p : Reader A} {D : A → Form B} {h : Test} {q : A → Reader B} {from : Tally} {to : B → Tally}
    → Reads effort R C g p → Still p → ((x : A) → Counts Any (D x) h from to (q x)) → ((x : A) → Begins g (D x))
    → Counts Any (f.◌>>=◌ C D) h from to (p >>= q)
counts_past {C = C} {g = g} {from = from} first still cq begins = counts_then first (counts_silent C g from still) cq begins

-- where the first counts nothing and goes on by nothing
pub counts_over : {effort : Effort} {A B : Type 0} {R C : Form A} {p : Reader A} {D : A → Form B} {h : Test} {q : A → Reader B} {from : Tally} {to : B → Tally}
    → Reads effort R C never p → Still p → ((x : A) → Counts Any (D x) h from to (q x)) → Counts Any (f.◌>>=◌ C D) h from to (p >>= q)
counts_over first still cq = counts_past first still cq (λ x. record { first = λ b y rest d. never_stops (b ++ rest) })

-- one way or the other
pub counts_either : {A : Type 0} {C D : Form A} {g : Test} {p q : Reader A} {from : Tally} {to : A → Tally} (test : Test) → Starts true test C → Starts false test D
    → Counts Any C g from to p → Counts Any D g from to q → Counts Any (f.◌<|>◌ C D) g from to (choose test p q)
counts_either {C = C} {D = D} {g = g} {p = p} {q = q} test heads others cp cq =
    counts_choose test C D g p q (counts_weaken (Passing test) (passing_same test) cp) (counts_weaken (Failing test) (failing_same test) cq) heads.first
    (λ w x rest c stop. others.first w x rest c)

-- one way, or nothing
pub counts_or_nothing : {A : Type 0} {C : Form A} {p : Reader A} {from : Tally} {to : A → Tally} (test : Test) (y : A) → Starts true test C → to y ≡ from → Counts Any C never from to p
    → Counts Any (f.◌<|>◌ C (nothing y)) test from to (choose test p (pure y))
counts_or_nothing {C = C} {p = p} {from = from} {to = to} test y heads is cp =
    counts_choose test C (nothing y) test p (pure y) (counts_weaken (Passing test) (passing_same test) (counts_free test cp))
    (counts_weaken (Failing test) (failing_same test) (counts_pure y test from to is)) heads.first
    (λ w x rest c stop. ap (λ (v : List Token). passes test (v ++ rest)) c.0 ∙ stop)

-- a name, its node, and what follows it
pub counts_named : {effort : Effort} {B : Type 0} {D : Word → Form B} {h : Test} {r : Word → Reader B} (kind : List ℕ → TokenKind) (text_of : TokenKind → Option (List ℕ)) (to : B → Tally)
    → Exact effort Any (f.holding kind) (f.holding kind) never (holder text_of) → (n : ℕ)
    → ((name : Word) → Counts Any (D name) h (known (n + 1) 1) to (r name)) → Counts Any (f.◌>>=◌ (f.holding kind) D) h (unknown n) to (holder text_of >>= λ name. grow name.at >> r name)
counts_named {D = D} {h = h} {r = r} kind text_of to e n cr =
    counts_grown D h (λ (name : Word). name.at) r to (λ t x c. sym c.1) e (λ x b y rest d stop. never_stops (b ++ rest)) n cr

-- ---- lists

-- R { "," R }
pub rises_list : {effort : Effort} {A : Type 0} {R C : Form A} {g : Test} {p : Reader A} (size high : A → ℕ) → Reads effort R C g p → At false l.Comma g → Begins (seen l.Newline) C
    → Rises size high Any C g p → Rises (size_of_all size) (top_of_all high) Any (f.listed C) (either (seen l.Comma) g) (listed effort.turns p)
rises_list {effort = effort} {R = R} {C = C} {g = g} {p = p} size high e not lineless rp =
    rises_listed_parts effort R C g p e.0 lineless.first e.1.0 e.1.1 e.1.2 (seen_apart l.Comma g not) size high rp

-- { sep } [ R { sep { sep } R } ] { sep }
pub rises_lines : {effort : Effort} {A : Type 0} {R C : Form A} {g : Test} {p : Reader A} (begins : Test) (size high : A → ℕ) → Reads effort R C g p → Starts true begins C
    → At false l.Newline begins → At false l.Newline g → (h : Test)
    → ((found : TokenLook) (spaced : Bool) → h found spaced ≡ false → (seen l.Newline found spaced ≡ false) × (begins found spaced ≡ false) × (g found spaced ≡ false))
    → Rises size high Any C g p → Rises (size_of_all size) (top_of_all high) Any (f.stmts C) h (stmts effort.turns begins p)
rises_lines {effort = effort} {R = R} {C = C} {g = g} {p = p} begins size high e starts line lines h ends rp =
    rises_stmts effort R C begins g p e.0 starts.first line lines h ends size high rp
