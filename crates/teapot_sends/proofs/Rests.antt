-- What follows a Suspend costs no more than the whole.
use Rattle.std.proofs.Common.{◌≡◌, ◌∙◌, ℕ, ◌+◌, ◌*◌, ◌≤◌, max, length, List, [], ◌∷◌, ◌++◌, Option, Some, None, refl, ap, arith}
use Rattle.std.specs.Prelude.{Bool, unwrap_or}
use Rattle.tw_base.specs.declared.name.Name.{Name}
use Rattle.teapot_tree.specs.declared.expr.Expr.{Expr}
use Rattle.teapot_tree.specs.declared.stmt.Do.{out-roll-Do}
use Rattle.teapot_tree.specs.declared.stmt.Do.TheOpen.{Do-F}
use Rattle.teapot_tree.specs.declared.stmt.Stmt.{Stmt}
use Rattle.teapot_tree.specs.Bodies.{body_of}
use Rattle.teapot_meaning.specs.Depth.{nodes_in}
use Rattle.teapot_meaning.specs.Fits.{FollowsSuspend, at_suspend, later, in_first, in_second, in_loop, in_each}
use Rattle.teapot_meaning.specs.Layers.{Layer, what_of}
use Rattle.teapot_meaning.specs.Steps.{each}
use Rattle.teapot_rules.specs.Stmts.{append, layer_body}
use Rattle.teapot_sends.specs.Prices.{Price, in_text, ahead, peak, ahead_of}
use Rattle.teapot_sends.proofs.Bodies.{ahead-append, body-append, body-first, peak-append, turns-le}

module _ (c : Price) where
  abbrev text_of : List Stmt → ℕ
  text_of stmts = in_text c (body_of stmts)

  abbrev pub peak_of : List Stmt → ℕ
  peak_of stmts = peak c (body_of stmts)

  -- ---- one level of a statement

  abbrev pub layer_ahead : Layer → ℕ
  layer_ahead l = ahead c (layer_body 0 l)

  same_ahead : (n m : ℕ) (l : Layer) → ahead c (layer_body n l) ≡ ahead c (layer_body m l)
  same_ahead n m (Do-F.If e xs None) = refl
  same_ahead n m (Do-F.If e xs (Some ys)) = refl
  same_ahead n m _ = refl

  pub ahead-first : (s : Stmt) (rest : List Stmt) (l : Layer) → what_of s ≡ l →
      ahead_of c (s ∷ rest) ≡ layer_ahead l + ahead_of c rest
  ahead-first s rest l e =
      ap (ahead c) (body-first s rest l e) ∙ ahead-append c (layer_body s.line l) (body_of rest)
      ∙ ap (λ z. z + ahead_of c rest) (same_ahead s.line 0 l)

  pub ahead-both : (xs ys : List Stmt) → ahead_of c (xs ++ ys) ≡ ahead_of c xs + ahead_of c ys
  ahead-both xs ys = ap (ahead c) (body-append xs ys) ∙ ahead-append c (body_of xs) (body_of ys)

  pub ahead-each : (x : Name) (set : List Bool) (body rest : List Stmt) →
      ahead_of c (each x set body ∷ rest) ≡ length (nodes_in set) * (c.turn + text_of body) + c.turn + ahead_of c rest
  ahead-each x set body rest =
      let e = ahead-first (each x set body) rest (Do-F.Each x set body) (out-roll-Do (Do-F.Each x set body)) in omega arith

  -- ---- peaks

  peak-tail : (s : Stmt) (rest : List Stmt) → peak_of rest ≤ peak_of (s ∷ rest)
  peak-tail s rest = by_layer (what_of s) (ap (peak c) (body-first s rest (what_of s) refl))
    where
      by_layer : (l : Layer) → peak_of (s ∷ rest) ≡ peak c (append (layer_body s.line l) (body_of rest)) →
          peak_of rest ≤ peak_of (s ∷ rest)
      by_layer (Do-F.If e xs None) h = omega arith
      by_layer (Do-F.If e xs (Some ys)) h = omega arith
      by_layer _ h = omega arith

  peak-both : (xs ys : List Stmt) → peak_of (xs ++ ys) ≤ max (text_of xs + ahead_of c ys) (peak_of ys)
  peak-both xs ys = let e = ap (peak c) (body-append xs ys) in let h = peak-append c (body_of xs) (body_of ys) in omega arith

  peak-if : (s : Stmt) (rest first : List Stmt) (e : Expr) (second : Option (List Stmt)) → what_of s ≡ Do-F.If e first second
      → (text_of first + ahead_of c rest ≤ peak_of (s ∷ rest))
      × (text_of (unwrap_or second []) + ahead_of c rest ≤ peak_of (s ∷ rest))
  peak-if s rest first e None h = let k = ap (peak c) (body-first s rest (Do-F.If e first None) h) in (omega arith, omega arith)
  peak-if s rest first e (Some second) h = let k = ap (peak c) (body-first s rest (Do-F.If e first (Some second)) h) in
      (omega arith, omega arith)

  -- a turn of a loop, and then the loop again
  peak-turn : (x : Name) (set : List Bool) (body rest : List Stmt) (n : ℕ) → length (nodes_in set) ≤ 7 →
      8 * (c.turn + text_of body) + c.turn + ahead_of c rest ≤ n → peak_of rest ≤ n
      → peak_of (body ++ each x set body ∷ rest) ≤ n
  peak-turn x set body rest n few le more =
      let all = peak-both body (each x set body ∷ rest) in
      let one = ahead-each x set body rest in
      let turns = turns-le (length (nodes_in set)) 7 (c.turn + text_of body) few in
      let again = ap (peak c) (body-first (each x set body) rest (Do-F.Each x set body) (out-roll-Do (Do-F.Each x set body))) in
      omega arith

  pub rest-le : {stmts rest : List Stmt} → FollowsSuspend stmts rest → peak_of rest ≤ peak_of stmts
  rest-le (at_suspend {s = s} {rest = rest} e) = peak-tail s rest
  rest-le (later {s = s} {stmts = stmts} f) = let i = rest-le f in let j = peak-tail s stmts in omega arith
  rest-le (in_first {s = s} {stmts = stmts} {first = first} {e = e} {second = second} h f) =
      let i = rest-le f in
      let j = peak-tail s stmts in
      let k = peak-if s stmts first e second h in
      let m = peak-both first stmts in
      omega arith
  rest-le (in_second {s = s} {stmts = stmts} {first = first} {e = e} {second = second} h f) =
      let i = rest-le f in
      let j = peak-tail s stmts in
      let k = peak-if s stmts first e second h in
      let m = peak-both (unwrap_or second []) stmts in
      omega arith
  rest-le (in_loop {s = s} {stmts = stmts} {body = body} {x = x} {e = e} set h few f) =
      let i = rest-le f in
      let j = peak-tail s stmts in
      let k = ap (peak c) (body-first s stmts (Do-F.ForEach x e body) h) in
      let m = peak-turn x set body stmts (peak_of (s ∷ stmts)) few (omega arith) j in
      omega arith
  rest-le (in_each {s = s} {stmts = stmts} {body = body} {x = x} {was = was} set h few f) =
      let i = rest-le f in
      let j = peak-tail s stmts in
      let k = ap (peak c) (body-first s stmts (Do-F.Each x was body) h) in
      let m = peak-turn x set body stmts (peak_of (s ∷ stmts)) few (omega arith) j in
      omega arith
