-- No state and no message stands past the last.
use Rattle.std.proofs.Common.{◌≡◌, ◌≤◌, ℕ, zero, suc, [], refl, arith}
use Rattle.printed_text.specs.Names.{message_name, state_name}
use Rattle.stache_tree.specs.Tree.{stache, states}

pub past_states : (n : ℕ) → 10 ≤ n → state_name stache n ≡ []
unfolding states
past_states zero h = absurd (omega arith)
past_states (suc zero) h = absurd (omega arith)
past_states (suc (suc zero)) h = absurd (omega arith)
past_states (suc (suc (suc zero))) h = absurd (omega arith)
past_states (suc (suc (suc (suc zero)))) h = absurd (omega arith)
past_states (suc (suc (suc (suc (suc zero))))) h = absurd (omega arith)
past_states (suc (suc (suc (suc (suc (suc zero)))))) h = absurd (omega arith)
past_states (suc (suc (suc (suc (suc (suc (suc zero))))))) h = absurd (omega arith)
past_states (suc (suc (suc (suc (suc (suc (suc (suc zero)))))))) h = absurd (omega arith)
past_states (suc (suc (suc (suc (suc (suc (suc (suc (suc zero))))))))) h = absurd (omega arith)
past_states (suc (suc (suc (suc (suc (suc (suc (suc (suc (suc n)))))))))) h = refl

pub past_messages : (n : ℕ) → 8 ≤ n → message_name stache n ≡ []
past_messages zero h = absurd (omega arith)
past_messages (suc zero) h = absurd (omega arith)
past_messages (suc (suc zero)) h = absurd (omega arith)
past_messages (suc (suc (suc zero))) h = absurd (omega arith)
past_messages (suc (suc (suc (suc zero)))) h = absurd (omega arith)
past_messages (suc (suc (suc (suc (suc zero))))) h = absurd (omega arith)
past_messages (suc (suc (suc (suc (suc (suc zero)))))) h = absurd (omega arith)
past_messages (suc (suc (suc (suc (suc (suc (suc zero))))))) h = absurd (omega arith)
past_messages (suc (suc (suc (suc (suc (suc (suc (suc n)))))))) h = refl
