use Rattle.std.proofs.Common.{◌≡◌, ℕ, ◌+◌, Bool, true, false, List, [], ◌∷◌, ◌++◌, drop, get_or, sym, ap, ◌∙◌, Vec, Global}
use Rattle.cr_lex.specs.Texts.{Scan, behind_bytes, scan}
use Rattle.cr_lex.proofs.Scanned.{escape_turn, slash_turn, plain_turn, no_hash, no_brace}
use Rattle.cr_lex.proofs.texts.read_body.Goals as goal
use Rattle.cr_lex.proofs.texts.read_body.Goals.{then-escaped+in-Some+in_ok-push, else-escaped+else-b-eq34+then-b-eq92, else-escaped+else-b-eq34+else-b-eq92+else-b-eq35+in_ok-push-2, else-b-eq35-via-then-b-eq35+else-begins_brace, else-b-eq35-via-else-b-eq35}

by_values : (bytes : List ℕ) (i : ℕ) (whole : Scan) (xs ys : List ℕ) (e f : Bool) → xs ≡ ys → e ≡ f → behind_bytes (i + 1) ys (scan f (drop (i + 1) bytes)) ≡ whole → behind_bytes (i + 1) xs (scan e (drop (i + 1) bytes)) ≡ whole
by_values bytes i whole xs ys e f p q h = ap (λ (zs : List ℕ). behind_bytes (i + 1) zs (scan e (drop (i + 1) bytes))) p ∙ ap (λ (g : Bool). behind_bytes (i + 1) ys (scan g (drop (i + 1) bytes))) q ∙ h

so_far : (bytes : List ℕ) (i : ℕ) (content : List ℕ) (whole : Scan) (e f : Bool) → e ≡ f → behind_bytes i content (scan e (drop i bytes)) ≡ whole → behind_bytes i content (scan f (drop i bytes)) ≡ whole
so_far bytes i content whole e f same h = ap (λ (g : Bool). behind_bytes i content (scan g (drop i bytes))) (sym same) ∙ h

pub loop-i-preserved : goal.loop-i-preserved
loop-i-preserved c =
    let bytes = c.args.bytes.now in
    let i = c.loop-i.i in
    let content = c.loop-i.content.items in
    elim c.if-escaped.branch [
      | then-escaped+in-Some+in_ok-push w ↦ by_values bytes i (scan false bytes) c.if-escaped.content.items (content ++ w.in-Some.byte ∷ []) c.if-escaped.escaped false
          (ap (λ (v : Vec ℕ Global). v.items) w.content-is ∙ w.in_ok-push.ensures.items) w.escaped-is
          (escape_turn bytes i content (scan false bytes) c.loop-i-test.true w.in-Some.byte w.in-Some.ensures (so_far bytes i content (scan false bytes) c.loop-i.escaped true w.if-escaped.true c.loop-i.invariant))
      | else-escaped+else-b-eq34+then-b-eq92 w ↦ by_values bytes i (scan false bytes) c.if-escaped.content.items content c.if-escaped.escaped true
          (ap (λ (v : Vec ℕ Global). v.items) w.content-is) w.escaped-is
          (slash_turn bytes i content (scan false bytes) c.loop-i-test.true w.if-b-eq34.false w.if-b-eq92.true (so_far bytes i content (scan false bytes) c.loop-i.escaped false w.if-escaped.false c.loop-i.invariant))
      | else-escaped+else-b-eq34+else-b-eq92+else-b-eq35+in_ok-push-2 w ↦ by_values bytes i (scan false bytes) c.if-escaped.content.items (content ++ get_or bytes i 0 ∷ []) c.if-escaped.escaped false
          (ap (λ (v : Vec ℕ Global). v.items) w.content-is ∙ w.in_ok-push-2.ensures.items) (w.escaped-is ∙ w.if-escaped.false)
          (plain_turn bytes i content (scan false bytes) c.loop-i-test.true w.if-b-eq34.false w.if-b-eq92.false
          (elim w.else-b-eq35.branch [
            | else-b-eq35-via-then-b-eq35+else-begins_brace w' ↦ no_brace bytes i content (scan false bytes) c.loop-i-test.true w'.if-begins_brace.ensures
            | else-b-eq35-via-else-b-eq35 w' ↦ no_hash bytes i content (scan false bytes) c.loop-i-test.true w'.if-b-eq35.false
          ])
          (so_far bytes i content (scan false bytes) c.loop-i.escaped false w.if-escaped.false c.loop-i.invariant))
    ]
