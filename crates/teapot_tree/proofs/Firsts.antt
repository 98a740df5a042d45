-- There is at most one first break.
use Rattle.std.proofs.Common.{◌≡◌, ℕ, zero, suc, ◌<◌, ◌≤◌, refl, ap, sym, ◌∙◌, arith, inl, inr, ◌⊎◌}
use Rattle.teapot_tree.specs.declared.protocol.Protocol.{Protocol}
use Rattle.teapot_tree.specs.declared.rule.Rule.{Rule}
use Rattle.teapot_tree.specs.declared.rule.Rule.TheVariants.{Undeclared, Twice, WrongType, ArgCount, NoDefault, ContDropped}
use Rattle.teapot_tree.specs.declared.rule.Rule.TheVariants.{ResumeNotLast, ResumeForeign, AfterSuspend, NoData, TooManySends}
use Rattle.teapot_tree.specs.declared.rule.Rule.TheVariants.{NotTwoStarts}
use Rattle.teapot_tree.specs.Rules.{rank, IsFirstBreak}

abbrev ranked : ℕ → Rule
ranked (suc zero) = Undeclared
ranked (suc (suc zero)) = Twice
ranked (suc (suc (suc zero))) = WrongType
ranked (suc (suc (suc (suc zero)))) = ArgCount
ranked (suc (suc (suc (suc (suc zero))))) = NoDefault
ranked (suc (suc (suc (suc (suc (suc zero)))))) = ContDropped
ranked (suc (suc (suc (suc (suc (suc (suc zero))))))) = ResumeNotLast
ranked (suc (suc (suc (suc (suc (suc (suc (suc zero)))))))) = ResumeForeign
ranked (suc (suc (suc (suc (suc (suc (suc (suc (suc zero))))))))) = AfterSuspend
ranked (suc (suc (suc (suc (suc (suc (suc (suc (suc (suc zero)))))))))) = NoData
ranked (suc (suc (suc (suc (suc (suc (suc (suc (suc (suc (suc zero))))))))))) = TooManySends
ranked _ = NotTwoStarts

ranked-rank : (r : Rule) → ranked (rank r) ≡ r
ranked-rank Undeclared = refl
ranked-rank Twice = refl
ranked-rank WrongType = refl
ranked-rank ArgCount = refl
ranked-rank NoDefault = refl
ranked-rank ContDropped = refl
ranked-rank ResumeNotLast = refl
ranked-rank ResumeForeign = refl
ranked-rank AfterSuspend = refl
ranked-rank NoData = refl
ranked-rank TooManySends = refl
ranked-rank NotTwoStarts = refl

pub rank-same : (q r : Rule) → rank q ≡ rank r → q ≡ r
rank-same q r e = sym (ranked-rank q) ∙ ap ranked e ∙ ranked-rank r

meet : (l m a b : ℕ) → (l < m) ⊎ ((l ≡ m) × (a ≤ b)) → (m < l) ⊎ ((m ≡ l) × (b ≤ a)) → (l ≡ m) × (a ≡ b)
meet l m a b (inl h) (inl k) = absurd (omega arith)
meet l m a b (inl h) (inr k) = absurd (omega (arith, k.0))
meet l m a b (inr h) (inl k) = absurd (omega (arith, h.0))
meet l m a b (inr h) (inr k) = (h.0, omega (arith, h.1, k.1))

pub one_first : (p : Protocol) (line l : ℕ) (rule r : Rule) → IsFirstBreak p line rule → IsFirstBreak p l r →
    (line ≡ l) × (rule ≡ r)
one_first p line l rule r f g =
    let m = meet line l (rank rule) (rank r) (f.first l r g.broken) (g.first line rule f.broken) in
    (m.0, rank-same rule r m.1)
