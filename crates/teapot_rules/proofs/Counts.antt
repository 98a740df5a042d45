-- The most that the walk counts is the most that a path sends.
use Rattle.std.proofs.Common.{◌≡◌, ℕ, ◌+◌, ◌<◌, ◌≤◌, max, sym, subst, inl, inr, ◌⊎◌, arith}
use Rattle.std.specs.Prelude.{◌↔◌}
use Rattle.std.proofs.Math.Nat.{max-eq_left, max-eq_right}
use Rattle.std.proofs.lemmas.Bool.{cases_lt}
use Rattle.teapot_tree.specs.Bodies.{Body, done, plain, branch, branches, loop, each}
use Rattle.teapot_tree.specs.Paths.{Sends, nothing, counted, if_taken, if_passed, if_first, if_second, repeated, passed_over}
use Rattle.teapot_rules.specs.Walks.{most}

above : (b : Body) (n : ℕ) → Sends b n → n ≤ most b
above b n nothing = omega arith
above b n (counted {s = s} {b = c} {k = k} d) = let i = above c k d in omega arith
above b n (if_taken {x = x} {b = c} {k = k} {m = m} d f) = let i = above x k d in let j = above c m f in omega arith
above b n (if_passed {x = x} {b = c} {m = m} f) = let j = above c m f in omega arith
above b n (if_first {x = x} {y = y} {b = c} {k = k} {m = m} d f) = let i = above x k d in let j = above c m f in omega arith
above b n (if_second {x = x} {y = y} {b = c} {k = k} {m = m} d f) = let i = above y k d in let j = above c m f in omega arith
above b n (repeated {x = x} {b = c} {k = k} {m = m} d f) = let i = above x k d in let j = above c m f in omega arith
above b n (passed_over {b = c} {m = m} f) = above c m f

larger : (a b : ℕ) → (max a b ≡ a) ⊎ (max a b ≡ b)
larger a b = elim (cases_lt a b) [ inl h ↦ inr (max-eq_right (omega arith)) | inr h ↦ inl (max-eq_left h) ]

reached : (b : Body) → Sends b (most b)
reached done = nothing
reached (plain n s b) = counted (reached b)
reached (branch n e x b) = if_taken (reached x) (reached b)
reached (branches n e x y b) = elim (larger (most x) (most y)) [
  | inl h ↦ subst (λ z. Sends (branches n e x y b) (z + most b)) (sym h) (if_first (reached x) (reached b))
  | inr h ↦ subst (λ z. Sends (branches n e x y b) (z + most b)) (sym h) (if_second (reached y) (reached b))
]
reached (loop n v e x b) = repeated (reached x) (reached b)
reached (each n v s x b) = passed_over (reached b)

pub most-is : (b : Body) → (32 < most b) ↔ ((n : ℕ) × Sends b n × (32 < n))
most-is b = (λ h. (most b, reached b, h), λ h. let i = above b h.0 h.1 in let j = h.2 in omega arith)
