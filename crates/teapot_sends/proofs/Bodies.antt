-- What one body after another costs.
use Rattle.std.proofs.Common.{◌≡◌, ◌∙◌, ℕ, ◌+◌, ◌*◌, ◌≤◌, max, length, List, [], ◌∷◌, ◌++◌, refl, ap, sym, arith}
use Rattle.std.proofs.Math.Nat.{mul-le-mul_right}
use Rattle.teapot_tree.specs.declared.stmt.Stmt.{Stmt}
use Rattle.teapot_tree.specs.Bodies.{Body, done, plain, branch, branches, loop, each, body_of}
use Rattle.teapot_tree.specs.Parts.{eaches}
use Rattle.teapot_meaning.specs.Depth.{nodes_in}
use Rattle.teapot_meaning.specs.Layers.{Layer, what_of}
use Rattle.teapot_meaning.proofs.Members.{nodes_few}
use Rattle.teapot_rules.specs.Stmts.{append, layer_body, stmt_body}
use Rattle.teapot_rules.specs.Walks.{most}
use Rattle.teapot_rules.proofs.Appending.{body-cons}
use Rattle.teapot_sends.specs.Prices.{Price, by_messages, in_text, ahead, peak}

-- ---- bodies of lists

append-assoc : (a b c : Body) → append (append a b) c ≡ append a (append b c)
append-assoc done b c = refl
append-assoc (plain line s a) b c = ap (λ z. plain line s z) (append-assoc a b c)
append-assoc (branch line e x a) b c = ap (λ z. branch line e x z) (append-assoc a b c)
append-assoc (branches line e x y a) b c = ap (λ z. branches line e x y z) (append-assoc a b c)
append-assoc (loop line v e x a) b c = ap (λ z. loop line v e x z) (append-assoc a b c)
append-assoc (each line v s x a) b c = ap (λ z. each line v s x z) (append-assoc a b c)

pub body-append : (xs ys : List Stmt) → body_of (xs ++ ys) ≡ append (body_of xs) (body_of ys)
body-append [] ys = refl
body-append (s ∷ xs) ys =
    body-cons s (xs ++ ys) ∙ ap (append (stmt_body s)) (body-append xs ys)
    ∙ sym (append-assoc (stmt_body s) (body_of xs) (body_of ys)) ∙ ap (λ z. append z (body_of ys)) (sym (body-cons s xs))

pub body-first : (s : Stmt) (xs : List Stmt) (l : Layer) → what_of s ≡ l →
    body_of (s ∷ xs) ≡ append (layer_body s.line l) (body_of xs)
body-first s xs l e = body-cons s xs ∙ ap (λ z. append (layer_body s.line z) (body_of xs)) e

-- ---- a loop's turns

pub turns-le : (k n t : ℕ) → k ≤ n → k * t ≤ n * t
turns-le k n t le = mul-le-mul_right t le

-- ---- what they cost

module _ (c : Price) where
  pub ahead-append : (a b : Body) → ahead c (append a b) ≡ ahead c a + ahead c b
  ahead-append done b = omega arith
  ahead-append (plain line s a) b = let i = ahead-append a b in omega arith
  ahead-append (branch line e x a) b = let i = ahead-append a b in omega arith
  ahead-append (branches line e x y a) b = let i = ahead-append a b in omega arith
  ahead-append (loop line v e x a) b = let i = ahead-append a b in omega arith
  ahead-append (each line v set x a) b = let i = ahead-append a b in omega arith

  pub ahead-le : (b : Body) → ahead c b ≤ in_text c b
  ahead-le done = omega arith
  ahead-le (plain line s b) = let i = ahead-le b in omega arith
  ahead-le (branch line e x b) = let i = ahead-le b in omega arith
  ahead-le (branches line e x y b) = let i = ahead-le b in omega arith
  ahead-le (loop line v e x b) = let i = ahead-le b in omega arith
  ahead-le (each line v set x b) =
      let i = ahead-le b in
      let few = turns-le (length (nodes_in set)) 8 (c.turn + in_text c x) (nodes_few set) in
      omega arith

  pub ahead-le-peak : (b : Body) → ahead c b ≤ peak c b
  ahead-le-peak done = omega arith
  ahead-le-peak (plain line s b) = omega arith
  ahead-le-peak (branch line e x b) = omega arith
  ahead-le-peak (branches line e x y b) = omega arith
  ahead-le-peak (loop line v e x b) = omega arith
  ahead-le-peak (each line v set x b) =
      let few = turns-le (length (nodes_in set)) 8 (c.turn + in_text c x) (nodes_few set) in
      omega arith

  pub peak-le : (b : Body) → peak c b ≤ in_text c b
  peak-le done = omega arith
  peak-le (plain line s b) = let i = peak-le b in let j = ahead-le b in omega arith
  peak-le (branch line e x b) = let i = peak-le b in let j = ahead-le b in omega arith
  peak-le (branches line e x y b) = let i = peak-le b in let j = ahead-le b in omega arith
  peak-le (loop line v e x b) = let i = peak-le b in let j = ahead-le b in omega arith
  peak-le (each line v set x b) = let i = peak-le b in let j = ahead-le b in omega arith

  pub peak-append : (a b : Body) → peak c (append a b) ≤ max (in_text c a + ahead c b) (peak c b)
  peak-append done b = omega arith
  peak-append (plain line s a) b = let i = peak-append a b in let j = ahead-le a in let k = ahead-append a b in omega arith
  peak-append (branch line e x a) b = let i = peak-append a b in let j = ahead-le a in let k = ahead-append a b in omega arith
  peak-append (branches line e x y a) b = let i = peak-append a b in let j = ahead-le a in let k = ahead-append a b in omega arith
  peak-append (loop line v e x a) b = let i = peak-append a b in let j = ahead-le a in let k = ahead-append a b in omega arith
  peak-append (each line v set x a) b = let i = peak-append a b in let j = ahead-le a in let k = ahead-append a b in omega arith

-- a text with no loop on its way costs what the rule counts
pub text-most : (b : Body) → eaches b ≡ 0 → in_text by_messages b ≡ most b
text-most done e = refl
text-most (plain line s b) e = let i = text-most b e in omega arith
text-most (branch line f x b) e = let i = text-most x (omega arith) in let j = text-most b (omega arith) in omega arith
text-most (branches line f x y b) e =
    let i = text-most x (omega arith) in let k = text-most y (omega arith) in let j = text-most b (omega arith) in omega arith
text-most (loop line v f x b) e = let i = text-most x (omega arith) in let j = text-most b (omega arith) in omega arith
text-most (each line v set x b) e = absurd (omega arith)
