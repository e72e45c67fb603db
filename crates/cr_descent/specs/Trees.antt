-- Lists of tokens with the tree that they spell, and one with a tree that it does not spell.
use Rattle.std.specs.Prelude.{pos, true, false, List, [], ◌∷◌, codes, Some, None}
use Rattle.cr_syntax.specs.declared.token.Token.{Token}
use Rattle.cr_syntax.specs.declared.look.TokenLook.TheVariants as l
use Rattle.cr_syntax.specs.declared.token.TokenKind.TheVariants as k
use Rattle.cr_grammar.specs.declared.operator.Binary.TheVariants as binary
use Rattle.cr_grammar.specs.declared.operator.Unary.TheVariants as prefix
use Rattle.cr_grammar.specs.declared.operator.Assignment.TheVariants as assignment
use Rattle.cr_grammar.specs.declared.tree.Tree.{Tree}
use Rattle.cr_grammar.specs.declared.tree.Tree.TheVariants as tree
use Rattle.cr_grammar.specs.declared.wanted.Wanted.TheVariants.{Program}
use Rattle.cr_grammar.specs.Grammar.{Spells}
use Rattle.cr_grammar.specs.Examples.{spaced_at, tight_at, name}
use Rattle.cr_descent.specs.Examples.{ended}

-- a list of tokens and its tree
abbrev pub TreeRow : Type 0
TreeRow = List Token × Tree

abbrev pub spelled : List Token → Tree → TreeRow
spelled list x = (list, x)

-- Each list spells its tree.
abbrev pub Spelled : List TreeRow → Type 0
Spelled [] = Unit {0}
Spelled (row ∷ rows) = Spells Program row.0 row.1 × Spelled rows

-- brackets and a block behind a name, a `-` behind what is no name, an operator of each level, a modifier, and a class
abbrev pub trees : List TreeRow
trees =
    -- x [1]
    spelled (spaced_at 0 1 (k.Ident (codes "x")) ∷ spaced_at 2 3 (k.Plain l.OpenBracket) ∷ tight_at 3 4 (k.Int32 (pos 1)) ∷ tight_at 4 5 (k.Plain l.CloseBracket) ∷ ended 5)
    (tree.Statements (tree.Call 0 None (codes "x") (tree.Array 2 (tree.Int32 3 (pos 1) ∷ []) None ∷ []) None ∷ []))
    -- x[1]
    ∷ spelled (spaced_at 0 1 (k.Ident (codes "x")) ∷ tight_at 1 2 (k.Plain l.OpenBracket) ∷ tight_at 2 3 (k.Int32 (pos 1)) ∷ tight_at 3 4 (k.Plain l.CloseBracket) ∷ ended 4)
    (tree.Statements (tree.Index 1 (name 0 (codes "x")) (tree.Int32 2 (pos 1) ∷ []) false ∷ []))
    -- foo x do end
    ∷ spelled (spaced_at 0 3 (k.Ident (codes "foo")) ∷ spaced_at 4 5 (k.Ident (codes "x")) ∷ spaced_at 6 8 (k.Plain l.Do) ∷ spaced_at 9 12 (k.Plain l.KeywordEnd) ∷ ended 12)
    (tree.Statements (tree.Call 0 None (codes "foo") (name 4 (codes "x") ∷ []) (Some (tree.Block [] [])) ∷ []))
    -- a[0] -b
    ∷ spelled (spaced_at 0 1 (k.Ident (codes "a")) ∷ tight_at 1 2 (k.Plain l.OpenBracket) ∷ tight_at 2 3 (k.Int32 (pos 0)) ∷ tight_at 3 4 (k.Plain l.CloseBracket)
    ∷ spaced_at 5 6 (k.Plain l.Minus) ∷ tight_at 6 7 (k.Ident (codes "b")) ∷ ended 7)
    (tree.Statements (tree.Binary 5 binary.Minus (tree.Index 1 (name 0 (codes "a")) (tree.Int32 2 (pos 0) ∷ []) false) (name 6 (codes "b")) ∷ []))
    -- a || b && c == d << e + f * -g
    ∷ spelled (spaced_at 0 1 (k.Ident (codes "a")) ∷ spaced_at 2 4 (k.Plain l.OrOr) ∷ spaced_at 5 6 (k.Ident (codes "b")) ∷ spaced_at 7 9 (k.Plain l.AndAnd)
    ∷ spaced_at 10 11 (k.Ident (codes "c")) ∷ spaced_at 12 14 (k.Plain l.EqualEqual) ∷ spaced_at 15 16 (k.Ident (codes "d")) ∷ spaced_at 17 19 (k.Plain l.ShiftLeft)
    ∷ spaced_at 20 21 (k.Ident (codes "e")) ∷ spaced_at 22 23 (k.Plain l.Plus) ∷ spaced_at 24 25 (k.Ident (codes "f")) ∷ spaced_at 26 27 (k.Plain l.Star) ∷ spaced_at 28 29 (k.Plain l.Minus)
    ∷ tight_at 29 30 (k.Ident (codes "g")) ∷ ended 30)
    (tree.Statements (tree.Binary 2 binary.Or (name 0 (codes "a")) (tree.Binary 7 binary.And (name 5 (codes "b")) (tree.Binary 12 binary.Equal
    (name 10 (codes "c")) (tree.Binary 17 binary.ShiftLeft (name 15 (codes "d")) (tree.Binary 22 binary.Plus (name 20 (codes "e"))
    (tree.Binary 26 binary.Star (name 24 (codes "f")) (tree.Unary 28 prefix.Negate (name 29 (codes "g")))))))) ∷ []))
    -- x=[1,2]; x<<3 unless x.empty?
    ∷ spelled (spaced_at 0 1 (k.Ident (codes "x")) ∷ tight_at 1 2 (k.Plain l.Equal) ∷ tight_at 2 3 (k.Plain l.OpenBracket) ∷ tight_at 3 4 (k.Int32 (pos 1))
    ∷ tight_at 4 5 (k.Plain l.Comma) ∷ tight_at 5 6 (k.Int32 (pos 2)) ∷ tight_at 6 7 (k.Plain l.CloseBracket) ∷ tight_at 7 8 (k.Plain l.Newline) ∷ spaced_at 9 10 (k.Ident (codes "x"))
    ∷ tight_at 10 12 (k.Plain l.ShiftLeft) ∷ tight_at 12 13 (k.Int32 (pos 3)) ∷ spaced_at 14 20 (k.Plain l.Unless) ∷ spaced_at 21 22 (k.Ident (codes "x")) ∷ tight_at 22 23 (k.Plain l.Dot)
    ∷ tight_at 23 29 (k.Ident (codes "empty?")) ∷ ended 29)
    (tree.Statements (tree.Assign 0 (name 0 (codes "x")) assignment.Plain 1 (tree.Array 2
    (tree.Int32 3 (pos 1) ∷ tree.Int32 5 (pos 2) ∷ []) None) ∷ tree.If 9 true (tree.Call 23 (Some (name 21 (codes "x"))) (codes "empty?") [] None)
    (tree.Binary 10 binary.ShiftLeft (name 9 (codes "x")) (tree.Int32 12 (pos 3)) ∷ []) [] None ∷ []))
    -- class A; def initialize(@x : T?); end; end
    ∷ spelled (spaced_at 0 5 (k.Plain l.Class) ∷ spaced_at 6 7 (k.Constant (codes "A")) ∷ tight_at 7 8 (k.Plain l.Newline) ∷ spaced_at 9 12 (k.Plain l.Def)
    ∷ spaced_at 13 23 (k.Ident (codes "initialize")) ∷ tight_at 23 24 (k.Plain l.OpenParenthesis) ∷ tight_at 24 26 (k.InstanceVariable (codes "x"))
    ∷ spaced_at 27 28 (k.Plain l.Colon) ∷ spaced_at 29 30 (k.Constant (codes "T")) ∷ tight_at 30 31 (k.Plain l.Question) ∷ tight_at 31 32 (k.Plain l.CloseParenthesis)
    ∷ tight_at 32 33 (k.Plain l.Newline) ∷ spaced_at 34 37 (k.Plain l.KeywordEnd) ∷ tight_at 37 38 (k.Plain l.Newline) ∷ spaced_at 39 42 (k.Plain l.KeywordEnd) ∷ ended 42)
    (tree.Statements (tree.Class 0 (codes "A") [] None (tree.Def 9 (codes "initialize") (tree.Parameter 24 true (codes "x") (Some (tree.Union
    (tree.Atom 29 (codes "T" ∷ []) [] ∷ tree.Atom 30 (codes "Nil" ∷ []) [] ∷ []))) ∷ []) None [] ∷ []) ∷ []))
    ∷ []

-- ---- another tree

-- 1 - 2 - 3
abbrev pub two_differences : List Token
two_differences =
    spaced_at 0 1 (k.Int32 (pos 1)) ∷ spaced_at 2 3 (k.Plain l.Minus) ∷ spaced_at 4 5 (k.Int32 (pos 2)) ∷ spaced_at 6 7 (k.Plain l.Minus) ∷ spaced_at 8 9 (k.Int32 (pos 3)) ∷ ended 9

-- It does not spell `1 - (2 - 3)`.
abbrev pub GroupsNotRight : Type 0
GroupsNotRight =
    Spells Program two_differences
    (tree.Statements (tree.Binary 2 binary.Minus (tree.Int32 0 (pos 1)) (tree.Binary 6 binary.Minus (tree.Int32 4 (pos 2)) (tree.Int32 8 (pos 3))) ∷ []))
    → ⊥

-- ---- a whole program

-- module Scoring
--   def score(x : Int32) : Int32
--     x
--   end
-- end
-- class Box(T)
--   getter value : T
--   def initialize(@value : T)
--   end
-- end
-- class Worker
--   include Scoring
--   def initialize(@jobs : Channel(Int32), @results : Channel(Box(Int32 | Nil)))
--   end
--   def run
--     while job = @jobs.receive?
--       @results.send(Box(Int32 | Nil).new(score(job)))
--     end
--     @results.send(Box(Int32 | Nil).new(nil))
--   end
-- end
-- jobs = Channel(Int32).new(16)
-- results = Channel(Box(Int32 | Nil)).new(16)
-- ctx = Fiber::ExecutionContext::Parallel.new("pool", 4)
-- 4.times do
--   ctx.spawn do
--     Worker.new(jobs, results).run
--   end
-- end
-- spawn do
--   i = 1
--   while i <= 200
--     jobs.send i
--     i += 1
--   end
--   jobs.close
-- end
-- seen = {} of Int32 => Int32
-- left = 4
-- while left > 0
--   v = results.receive.value
--   case v
--   in Int32
--     seen[v] = v
--   in Nil
--     left -= 1
--   end
-- end
-- total = 0
-- seen.each do |k, w|
--   total += w
-- end
-- puts total
abbrev pub workers : List Token
workers =
    spaced_at 0 6 (k.Plain l.Module) ∷ spaced_at 7 14 (k.Constant (codes "Scoring")) ∷ tight_at 14 15 (k.Plain l.Newline) ∷ spaced_at 17 20 (k.Plain l.Def)
    ∷ spaced_at 21 26 (k.Ident (codes "score")) ∷ tight_at 26 27 (k.Plain l.OpenParenthesis) ∷ tight_at 27 28 (k.Ident (codes "x")) ∷ spaced_at 29 30 (k.Plain l.Colon)
    ∷ spaced_at 31 36 (k.Constant (codes "Int32")) ∷ tight_at 36 37 (k.Plain l.CloseParenthesis) ∷ spaced_at 38 39 (k.Plain l.Colon) ∷ spaced_at 40 45 (k.Constant (codes "Int32"))
    ∷ tight_at 45 46 (k.Plain l.Newline) ∷ spaced_at 50 51 (k.Ident (codes "x")) ∷ tight_at 51 52 (k.Plain l.Newline) ∷ spaced_at 54 57 (k.Plain l.KeywordEnd) ∷ tight_at 57 58 (k.Plain l.Newline)
    ∷ spaced_at 58 61 (k.Plain l.KeywordEnd) ∷ tight_at 61 62 (k.Plain l.Newline) ∷ spaced_at 62 67 (k.Plain l.Class) ∷ spaced_at 68 71 (k.Constant (codes "Box"))
    ∷ tight_at 71 72 (k.Plain l.OpenParenthesis) ∷ tight_at 72 73 (k.Constant (codes "T")) ∷ tight_at 73 74 (k.Plain l.CloseParenthesis) ∷ tight_at 74 75 (k.Plain l.Newline)
    ∷ spaced_at 77 83 (k.Plain l.Getter) ∷ spaced_at 84 89 (k.Ident (codes "value")) ∷ spaced_at 90 91 (k.Plain l.Colon) ∷ spaced_at 92 93 (k.Constant (codes "T"))
    ∷ tight_at 93 94 (k.Plain l.Newline) ∷ spaced_at 96 99 (k.Plain l.Def) ∷ spaced_at 100 110 (k.Ident (codes "initialize")) ∷ tight_at 110 111 (k.Plain l.OpenParenthesis)
    ∷ tight_at 111 117 (k.InstanceVariable (codes "value")) ∷ spaced_at 118 119 (k.Plain l.Colon) ∷ spaced_at 120 121 (k.Constant (codes "T"))
    ∷ tight_at 121 122 (k.Plain l.CloseParenthesis) ∷ tight_at 122 123 (k.Plain l.Newline) ∷ spaced_at 125 128 (k.Plain l.KeywordEnd) ∷ tight_at 128 129 (k.Plain l.Newline) ∷ spaced_at 129 132 (k.Plain l.KeywordEnd)
    ∷ tight_at 132 133 (k.Plain l.Newline) ∷ spaced_at 133 138 (k.Plain l.Class) ∷ spaced_at 139 145 (k.Constant (codes "Worker")) ∷ tight_at 145 146 (k.Plain l.Newline)
    ∷ spaced_at 148 155 (k.Plain l.Include) ∷ spaced_at 156 163 (k.Constant (codes "Scoring")) ∷ tight_at 163 164 (k.Plain l.Newline) ∷ spaced_at 166 169 (k.Plain l.Def)
    ∷ spaced_at 170 180 (k.Ident (codes "initialize")) ∷ tight_at 180 181 (k.Plain l.OpenParenthesis) ∷ tight_at 181 186 (k.InstanceVariable (codes "jobs"))
    ∷ spaced_at 187 188 (k.Plain l.Colon) ∷ spaced_at 189 196 (k.Constant (codes "Channel")) ∷ tight_at 196 197 (k.Plain l.OpenParenthesis)
    ∷ tight_at 197 202 (k.Constant (codes "Int32")) ∷ tight_at 202 203 (k.Plain l.CloseParenthesis) ∷ tight_at 203 204 (k.Plain l.Comma)
    ∷ spaced_at 205 213 (k.InstanceVariable (codes "results")) ∷ spaced_at 214 215 (k.Plain l.Colon) ∷ spaced_at 216 223 (k.Constant (codes "Channel"))
    ∷ tight_at 223 224 (k.Plain l.OpenParenthesis) ∷ tight_at 224 227 (k.Constant (codes "Box")) ∷ tight_at 227 228 (k.Plain l.OpenParenthesis)
    ∷ tight_at 228 233 (k.Constant (codes "Int32")) ∷ spaced_at 234 235 (k.Plain l.Pipe) ∷ spaced_at 236 239 (k.Constant (codes "Nil"))
    ∷ tight_at 239 240 (k.Plain l.CloseParenthesis) ∷ tight_at 240 241 (k.Plain l.CloseParenthesis) ∷ tight_at 241 242 (k.Plain l.CloseParenthesis) ∷ tight_at 242 243 (k.Plain l.Newline)
    ∷ spaced_at 245 248 (k.Plain l.KeywordEnd) ∷ tight_at 248 249 (k.Plain l.Newline) ∷ spaced_at 251 254 (k.Plain l.Def) ∷ spaced_at 255 258 (k.Ident (codes "run")) ∷ tight_at 258 259 (k.Plain l.Newline)
    ∷ spaced_at 263 268 (k.Plain l.While) ∷ spaced_at 269 272 (k.Ident (codes "job")) ∷ spaced_at 273 274 (k.Plain l.Equal) ∷ spaced_at 275 280 (k.InstanceVariable (codes "jobs"))
    ∷ tight_at 280 281 (k.Plain l.Dot) ∷ tight_at 281 289 (k.Ident (codes "receive?")) ∷ tight_at 289 290 (k.Plain l.Newline)
    ∷ spaced_at 296 304 (k.InstanceVariable (codes "results")) ∷ tight_at 304 305 (k.Plain l.Dot) ∷ tight_at 305 309 (k.Ident (codes "send"))
    ∷ tight_at 309 310 (k.Plain l.OpenParenthesis) ∷ tight_at 310 313 (k.Constant (codes "Box")) ∷ tight_at 313 314 (k.Plain l.OpenParenthesis)
    ∷ tight_at 314 319 (k.Constant (codes "Int32")) ∷ spaced_at 320 321 (k.Plain l.Pipe) ∷ spaced_at 322 325 (k.Constant (codes "Nil"))
    ∷ tight_at 325 326 (k.Plain l.CloseParenthesis) ∷ tight_at 326 327 (k.Plain l.Dot) ∷ tight_at 327 330 (k.Ident (codes "new")) ∷ tight_at 330 331 (k.Plain l.OpenParenthesis)
    ∷ tight_at 331 336 (k.Ident (codes "score")) ∷ tight_at 336 337 (k.Plain l.OpenParenthesis) ∷ tight_at 337 340 (k.Ident (codes "job"))
    ∷ tight_at 340 341 (k.Plain l.CloseParenthesis) ∷ tight_at 341 342 (k.Plain l.CloseParenthesis) ∷ tight_at 342 343 (k.Plain l.CloseParenthesis) ∷ tight_at 343 344 (k.Plain l.Newline)
    ∷ spaced_at 348 351 (k.Plain l.KeywordEnd) ∷ tight_at 351 352 (k.Plain l.Newline) ∷ spaced_at 356 364 (k.InstanceVariable (codes "results")) ∷ tight_at 364 365 (k.Plain l.Dot)
    ∷ tight_at 365 369 (k.Ident (codes "send")) ∷ tight_at 369 370 (k.Plain l.OpenParenthesis) ∷ tight_at 370 373 (k.Constant (codes "Box"))
    ∷ tight_at 373 374 (k.Plain l.OpenParenthesis) ∷ tight_at 374 379 (k.Constant (codes "Int32")) ∷ spaced_at 380 381 (k.Plain l.Pipe) ∷ spaced_at 382 385 (k.Constant (codes "Nil"))
    ∷ tight_at 385 386 (k.Plain l.CloseParenthesis) ∷ tight_at 386 387 (k.Plain l.Dot) ∷ tight_at 387 390 (k.Ident (codes "new")) ∷ tight_at 390 391 (k.Plain l.OpenParenthesis)
    ∷ tight_at 391 394 (k.Plain l.Nil) ∷ tight_at 394 395 (k.Plain l.CloseParenthesis) ∷ tight_at 395 396 (k.Plain l.CloseParenthesis) ∷ tight_at 396 397 (k.Plain l.Newline)
    ∷ spaced_at 399 402 (k.Plain l.KeywordEnd) ∷ tight_at 402 403 (k.Plain l.Newline) ∷ spaced_at 403 406 (k.Plain l.KeywordEnd) ∷ tight_at 406 407 (k.Plain l.Newline)
    ∷ spaced_at 407 411 (k.Ident (codes "jobs")) ∷ spaced_at 412 413 (k.Plain l.Equal) ∷ spaced_at 414 421 (k.Constant (codes "Channel"))
    ∷ tight_at 421 422 (k.Plain l.OpenParenthesis) ∷ tight_at 422 427 (k.Constant (codes "Int32")) ∷ tight_at 427 428 (k.Plain l.CloseParenthesis) ∷ tight_at 428 429 (k.Plain l.Dot)
    ∷ tight_at 429 432 (k.Ident (codes "new")) ∷ tight_at 432 433 (k.Plain l.OpenParenthesis) ∷ tight_at 433 435 (k.Int32 (pos 16)) ∷ tight_at 435 436 (k.Plain l.CloseParenthesis)
    ∷ tight_at 436 437 (k.Plain l.Newline) ∷ spaced_at 437 444 (k.Ident (codes "results")) ∷ spaced_at 445 446 (k.Plain l.Equal) ∷ spaced_at 447 454 (k.Constant (codes "Channel"))
    ∷ tight_at 454 455 (k.Plain l.OpenParenthesis) ∷ tight_at 455 458 (k.Constant (codes "Box")) ∷ tight_at 458 459 (k.Plain l.OpenParenthesis)
    ∷ tight_at 459 464 (k.Constant (codes "Int32")) ∷ spaced_at 465 466 (k.Plain l.Pipe) ∷ spaced_at 467 470 (k.Constant (codes "Nil"))
    ∷ tight_at 470 471 (k.Plain l.CloseParenthesis) ∷ tight_at 471 472 (k.Plain l.CloseParenthesis) ∷ tight_at 472 473 (k.Plain l.Dot) ∷ tight_at 473 476 (k.Ident (codes "new"))
    ∷ tight_at 476 477 (k.Plain l.OpenParenthesis) ∷ tight_at 477 479 (k.Int32 (pos 16)) ∷ tight_at 479 480 (k.Plain l.CloseParenthesis) ∷ tight_at 480 481 (k.Plain l.Newline)
    ∷ spaced_at 481 484 (k.Ident (codes "ctx")) ∷ spaced_at 485 486 (k.Plain l.Equal) ∷ spaced_at 487 492 (k.Constant (codes "Fiber")) ∷ tight_at 492 494 (k.Plain l.ColonColon)
    ∷ tight_at 494 510 (k.Constant (codes "ExecutionContext")) ∷ tight_at 510 512 (k.Plain l.ColonColon) ∷ tight_at 512 520 (k.Constant (codes "Parallel"))
    ∷ tight_at 520 521 (k.Plain l.Dot) ∷ tight_at 521 524 (k.Ident (codes "new")) ∷ tight_at 524 525 (k.Plain l.OpenParenthesis) ∷ tight_at 525 531 (k.Text (codes "pool"))
    ∷ tight_at 531 532 (k.Plain l.Comma) ∷ spaced_at 533 534 (k.Int32 (pos 4)) ∷ tight_at 534 535 (k.Plain l.CloseParenthesis) ∷ tight_at 535 536 (k.Plain l.Newline)
    ∷ spaced_at 536 537 (k.Int32 (pos 4)) ∷ tight_at 537 538 (k.Plain l.Dot) ∷ tight_at 538 543 (k.Ident (codes "times")) ∷ spaced_at 544 546 (k.Plain l.Do) ∷ tight_at 546 547 (k.Plain l.Newline)
    ∷ spaced_at 549 552 (k.Ident (codes "ctx")) ∷ tight_at 552 553 (k.Plain l.Dot) ∷ tight_at 553 558 (k.Plain l.Spawn) ∷ spaced_at 559 561 (k.Plain l.Do) ∷ tight_at 561 562 (k.Plain l.Newline)
    ∷ spaced_at 566 572 (k.Constant (codes "Worker")) ∷ tight_at 572 573 (k.Plain l.Dot) ∷ tight_at 573 576 (k.Ident (codes "new")) ∷ tight_at 576 577 (k.Plain l.OpenParenthesis)
    ∷ tight_at 577 581 (k.Ident (codes "jobs")) ∷ tight_at 581 582 (k.Plain l.Comma) ∷ spaced_at 583 590 (k.Ident (codes "results")) ∷ tight_at 590 591 (k.Plain l.CloseParenthesis)
    ∷ tight_at 591 592 (k.Plain l.Dot) ∷ tight_at 592 595 (k.Ident (codes "run")) ∷ tight_at 595 596 (k.Plain l.Newline) ∷ spaced_at 598 601 (k.Plain l.KeywordEnd) ∷ tight_at 601 602 (k.Plain l.Newline)
    ∷ spaced_at 602 605 (k.Plain l.KeywordEnd) ∷ tight_at 605 606 (k.Plain l.Newline) ∷ spaced_at 606 611 (k.Plain l.Spawn) ∷ spaced_at 612 614 (k.Plain l.Do) ∷ tight_at 614 615 (k.Plain l.Newline)
    ∷ spaced_at 617 618 (k.Ident (codes "i")) ∷ spaced_at 619 620 (k.Plain l.Equal) ∷ spaced_at 621 622 (k.Int32 (pos 1)) ∷ tight_at 622 623 (k.Plain l.Newline)
    ∷ spaced_at 625 630 (k.Plain l.While) ∷ spaced_at 631 632 (k.Ident (codes "i")) ∷ spaced_at 633 635 (k.Plain l.LessEqual) ∷ spaced_at 636 639 (k.Int32 (pos 200))
    ∷ tight_at 639 640 (k.Plain l.Newline) ∷ spaced_at 644 648 (k.Ident (codes "jobs")) ∷ tight_at 648 649 (k.Plain l.Dot) ∷ tight_at 649 653 (k.Ident (codes "send"))
    ∷ spaced_at 654 655 (k.Ident (codes "i")) ∷ tight_at 655 656 (k.Plain l.Newline) ∷ spaced_at 660 661 (k.Ident (codes "i")) ∷ spaced_at 662 664 (k.Plain l.PlusEqual)
    ∷ spaced_at 665 666 (k.Int32 (pos 1)) ∷ tight_at 666 667 (k.Plain l.Newline) ∷ spaced_at 669 672 (k.Plain l.KeywordEnd) ∷ tight_at 672 673 (k.Plain l.Newline)
    ∷ spaced_at 675 679 (k.Ident (codes "jobs")) ∷ tight_at 679 680 (k.Plain l.Dot) ∷ tight_at 680 685 (k.Ident (codes "close")) ∷ tight_at 685 686 (k.Plain l.Newline)
    ∷ spaced_at 686 689 (k.Plain l.KeywordEnd) ∷ tight_at 689 690 (k.Plain l.Newline) ∷ spaced_at 690 694 (k.Ident (codes "seen")) ∷ spaced_at 695 696 (k.Plain l.Equal)
    ∷ spaced_at 697 698 (k.Plain l.OpenBrace) ∷ tight_at 698 699 (k.Plain l.CloseBrace) ∷ spaced_at 700 702 (k.Plain l.Of) ∷ spaced_at 703 708 (k.Constant (codes "Int32"))
    ∷ spaced_at 709 711 (k.Plain l.Arrow) ∷ spaced_at 712 717 (k.Constant (codes "Int32")) ∷ tight_at 717 718 (k.Plain l.Newline) ∷ spaced_at 718 722 (k.Ident (codes "left"))
    ∷ spaced_at 723 724 (k.Plain l.Equal) ∷ spaced_at 725 726 (k.Int32 (pos 4)) ∷ tight_at 726 727 (k.Plain l.Newline) ∷ spaced_at 727 732 (k.Plain l.While)
    ∷ spaced_at 733 737 (k.Ident (codes "left")) ∷ spaced_at 738 739 (k.Plain l.Greater) ∷ spaced_at 740 741 (k.Int32 (pos 0)) ∷ tight_at 741 742 (k.Plain l.Newline)
    ∷ spaced_at 744 745 (k.Ident (codes "v")) ∷ spaced_at 746 747 (k.Plain l.Equal) ∷ spaced_at 748 755 (k.Ident (codes "results")) ∷ tight_at 755 756 (k.Plain l.Dot)
    ∷ tight_at 756 763 (k.Ident (codes "receive")) ∷ tight_at 763 764 (k.Plain l.Dot) ∷ tight_at 764 769 (k.Ident (codes "value")) ∷ tight_at 769 770 (k.Plain l.Newline)
    ∷ spaced_at 772 776 (k.Plain l.Case) ∷ spaced_at 777 778 (k.Ident (codes "v")) ∷ tight_at 778 779 (k.Plain l.Newline) ∷ spaced_at 781 783 (k.Plain l.In)
    ∷ spaced_at 784 789 (k.Constant (codes "Int32")) ∷ tight_at 789 790 (k.Plain l.Newline) ∷ spaced_at 794 798 (k.Ident (codes "seen")) ∷ tight_at 798 799 (k.Plain l.OpenBracket)
    ∷ tight_at 799 800 (k.Ident (codes "v")) ∷ tight_at 800 801 (k.Plain l.CloseBracket) ∷ spaced_at 802 803 (k.Plain l.Equal) ∷ spaced_at 804 805 (k.Ident (codes "v"))
    ∷ tight_at 805 806 (k.Plain l.Newline) ∷ spaced_at 808 810 (k.Plain l.In) ∷ spaced_at 811 814 (k.Constant (codes "Nil")) ∷ tight_at 814 815 (k.Plain l.Newline)
    ∷ spaced_at 819 823 (k.Ident (codes "left")) ∷ spaced_at 824 826 (k.Plain l.MinusEqual) ∷ spaced_at 827 828 (k.Int32 (pos 1)) ∷ tight_at 828 829 (k.Plain l.Newline)
    ∷ spaced_at 831 834 (k.Plain l.KeywordEnd) ∷ tight_at 834 835 (k.Plain l.Newline) ∷ spaced_at 835 838 (k.Plain l.KeywordEnd) ∷ tight_at 838 839 (k.Plain l.Newline)
    ∷ spaced_at 839 844 (k.Ident (codes "total")) ∷ spaced_at 845 846 (k.Plain l.Equal) ∷ spaced_at 847 848 (k.Int32 (pos 0)) ∷ tight_at 848 849 (k.Plain l.Newline)
    ∷ spaced_at 849 853 (k.Ident (codes "seen")) ∷ tight_at 853 854 (k.Plain l.Dot) ∷ tight_at 854 858 (k.Ident (codes "each")) ∷ spaced_at 859 861 (k.Plain l.Do)
    ∷ spaced_at 862 863 (k.Plain l.Pipe) ∷ tight_at 863 864 (k.Ident (codes "k")) ∷ tight_at 864 865 (k.Plain l.Comma) ∷ spaced_at 866 867 (k.Ident (codes "w"))
    ∷ tight_at 867 868 (k.Plain l.Pipe) ∷ tight_at 868 869 (k.Plain l.Newline) ∷ spaced_at 871 876 (k.Ident (codes "total")) ∷ spaced_at 877 879 (k.Plain l.PlusEqual)
    ∷ spaced_at 880 881 (k.Ident (codes "w")) ∷ tight_at 881 882 (k.Plain l.Newline) ∷ spaced_at 882 885 (k.Plain l.KeywordEnd) ∷ tight_at 885 886 (k.Plain l.Newline)
    ∷ spaced_at 886 890 (k.Ident (codes "puts")) ∷ spaced_at 891 896 (k.Ident (codes "total")) ∷ tight_at 896 897 (k.Plain l.Newline) ∷ spaced_at 897 897 (k.Plain l.End) ∷ []

-- They are a program.
abbrev pub WorkersAreSpelled : Type 0
WorkersAreSpelled = (x : Tree) × Spells Program workers x
