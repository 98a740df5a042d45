-- The tests say whether an event is enabled.
use Rattle.std.proofs.Common.{◌≡◌, ◌<◌, Bool, true, false, not, ◌||◌, nat_lt, List, [], ◌∷◌, ◌++◌, Option, Some, None, refl, ap}
use Rattle.std.proofs.Common.{sym, ◌∙◌, subst}
use Rattle.std.specs.Prelude.{slice_get, is_some}
use Rattle.std.specs.Bool.{Decides}
use Rattle.std.proofs.Math.Bool.{or-true}
use Rattle.std.proofs.lemmas.Bool.Decides.{Decides-and, Decides-not, Decides-like, Decides-ltb}
use Rattle.tw_base.specs.Lists.{Each}
use Rattle.tw_base.specs.Shape.{handler_budget_of}
use Rattle.tw_base.specs.declared.entry.End.{End}
use Rattle.tw_base.specs.declared.entry.Event.{Event}
use Rattle.tw_base.specs.declared.entry.Event.TheVariants as event
use Rattle.tw_base.specs.declared.message.Message.{Message}
use Rattle.dsm_runs.specs.declared.mode.Mode.{Mode}
use Rattle.dsm_runs.specs.declared.mode.Mode.TheVariants as mode
use Rattle.dsm_runs.specs.declared.mode.Waiting.{Waiting}
use Rattle.dsm_runs.specs.Setups.{Setup}
use Rattle.dsm_runs.specs.Locals.{Local, IsReady, IsHeld, IsFirst, IsStale, last_stamp, MayInstruct, MayHandle}
use Rattle.dsm_runs.specs.Worlds.{World, IsEnabled}
use Rattle.dsm_runs.specs.Tests.{is_ready, is_woken, may_instruct, is_held, may_handle, has_eligible, is_early, is_enabled}

none_decides : (o : Option End) → Decides (not (is_some o)) (o ≡ None)
none_decides None = (λ e. refl, λ e. refl)
none_decides (Some x) = (λ e. absurd (cc), λ e. absurd (cc))

ready_decides : (m : Mode) → Decides (is_ready m) (IsReady m)
ready_decides mode.Running = (λ e. tt, λ h. refl)
ready_decides mode.Woken = (λ e. tt, λ h. refl)
ready_decides (mode.Blocked b) = (λ e. absurd (cc), λ h. absurd h)
ready_decides mode.Halted = (λ e. absurd (cc), λ h. absurd h)
ready_decides (mode.Trapped why) = (λ e. absurd (cc), λ h. absurd h)

woken_decides : (m : Mode) → Decides (is_woken m) (m ≡ mode.Woken)
woken_decides mode.Running = (λ e. absurd (cc), λ h. absurd (cc))
woken_decides mode.Woken = (λ e. refl, λ h. refl)
woken_decides (mode.Blocked b) = (λ e. absurd (cc), λ h. absurd (cc))
woken_decides mode.Halted = (λ e. absurd (cc), λ h. absurd (cc))
woken_decides (mode.Trapped why) = (λ e. absurd (cc), λ h. absurd (cc))

pub may_instruct_decides : (s : Setup) (l : Local) → Decides (may_instruct s l) (MayInstruct s l)
may_instruct_decides s l = Decides-like (may_instruct s l)
    (λ h. record { unfailed = h.0; ready = h.1.0; instructions = h.1.1.0; sent = h.1.1.1.0; clock = h.1.1.1.1 })
    (λ m. (m.unfailed, (m.ready, (m.instructions, (m.sent, m.clock)))))
    (Decides-and _ _ (none_decides l.failed) (Decides-and _ _ (ready_decides l.mode)
    (Decides-and _ _ (Decides-ltb l.instructions s.shape.budget)
    (Decides-and _ _ (Decides-ltb l.sent (handler_budget_of s.shape)) (Decides-ltb l.clock last_stamp)))))

held_decides : (s : Setup) (l : Local) → Decides (is_held s l) (IsHeld s l)
held_decides s l = Decides-like (is_held s l) (λ h. record { woken = h.0; may = h.1 }) (λ m. (m.woken, m.may))
    (Decides-and _ _ (woken_decides l.mode) (may_instruct_decides s l))

pub may_handle_decides : (s : Setup) (l : Local) → Decides (may_handle s l) (MayHandle s l)
may_handle_decides s l = Decides-like (may_handle s l)
    (λ h. record { unfailed = h.0; free = h.1.0; handled = h.1.1.0; sent = h.1.1.1.0; clock = h.1.1.1.1 })
    (λ m. (m.unfailed, (m.free, (m.handled, (m.sent, m.clock)))))
    (Decides-and _ _ (none_decides l.failed) (Decides-and _ _ (Decides-not _ (held_decides s l))
    (Decides-and _ _ (Decides-ltb l.handled (handler_budget_of s.shape))
    (Decides-and _ _ (Decides-ltb l.sent (handler_budget_of s.shape)) (Decides-ltb l.clock last_stamp)))))

-- ---- deferred messages

stale_decides : (ws : List Waiting) → Decides (not (has_eligible ws)) (Each IsStale ws)
stale_decides [] = (λ e. tt, λ h. refl)
stale_decides (w ∷ ws) = one w.eligible (has_eligible ws) (Each IsStale ws) (stale_decides ws)
  where
    one : (b r : Bool) (P : Type 0) → Decides (not r) P → Decides (not (b || r)) ((b ≡ false) × P)
    one true r P d = (λ e. absurd (cc), λ h. let bad : true ≡ false = h.0 in absurd (cc))
    one false r P d = (λ e. (refl, d.0 e), λ h. d.1 h.1)

-- some first eligible message
pub record HasFirst (ws : List Waiting) : Type 0 where
  pub message : Message
  pub earlier : List Waiting
  pub later : List Waiting
  pub takes : IsFirst message earlier later ws

pub first_is : (ws : List Waiting) → has_eligible ws ≡ true → HasFirst ws
first_is [] e = absurd (cc)
first_is (w ∷ ws) e = one w.eligible refl e (first_is ws)
  where
    one : (b : Bool) → w.eligible ≡ b → (b || has_eligible ws) ≡ true → (has_eligible ws ≡ true → HasFirst ws) → HasFirst (w ∷ ws)
    one true is found rest = record {
      message = w.message;
      earlier = [];
      later = ws;
      takes = record {
        found = ap (λ b. let x : Waiting = record { message = w.message; eligible = b } in x ∷ ws) is;
        stale = tt;
      };
    }
    one false is found rest =
        let r : HasFirst ws = rest found in
        record {
          message = r.message;
          earlier = w ∷ r.earlier;
          later = r.later;
          takes = record { found = ap (λ (x : List Waiting). w ∷ x) r.takes.found; stale = (is, r.takes.stale) };
        }

there : (m : Message) (earlier later : List Waiting) → has_eligible
    (earlier ++ record { message = m; eligible = true } ∷ later) ≡ true
there m [] later = refl
there m (w ∷ earlier) later = ap (λ b. w.eligible || b) (there m earlier later) ∙ or-true w.eligible

first_decides : (ws : List Waiting) → Decides (has_eligible ws) (HasFirst ws)
first_decides ws = (first_is ws, λ h. ap has_eligible h.takes.found ∙ there h.message h.earlier h.later)

-- ---- the front of a wire

pub record HasFront (wire : List Message) : Type 0 where
  pub message : Message
  pub rest : List Message
  pub front : wire ≡ message ∷ rest
  pub early : message.stamp < last_stamp

front_decides : (wire : List Message) → Decides (is_early (slice_get wire 0)) (HasFront wire)
front_decides [] = (λ e. absurd (cc), λ h. let bad : [] ≡ h.message ∷ h.rest = h.front in absurd (cc))
front_decides (m ∷ ms) = (
  λ e. record { message = m; rest = ms; front = refl; early = (Decides-ltb m.stamp last_stamp).0 e },
  λ h.
      let same : m ≡ h.message = head m h.message ms h.rest h.front in
      ap (λ (x : Message). nat_lt x.stamp last_stamp) same ∙ (Decides-ltb h.message.stamp last_stamp).1 h.early,
)
  where
    head : (x y : Message) (xs ys : List Message) → x ∷ xs ≡ y ∷ ys → x ≡ y
    head x y xs ys e = cc

-- ---- events

pub enabled_decides : (s : Setup) (g : World) (e : Event) → Decides (is_enabled s g e) (IsEnabled s g e)
enabled_decides s g (event.Instr i) = Decides-and _ _ (Decides-ltb i s.shape.nodes) (may_instruct_decides s (g.locals i))
enabled_decides s g (event.Redeliver i) = Decides-and _ _ (Decides-ltb i s.shape.nodes) (Decides-like _
    (λ h. record { may = h.0; message = h.1.message; earlier = h.1.earlier; later = h.1.later; takes = h.1.takes })
    (λ m. (m.may, record { message = m.message; earlier = m.earlier; later = m.later; takes = m.takes }))
    (Decides-and _ _ (may_handle_decides s (g.locals i)) (first_decides (g.locals i).deferred)))
enabled_decides s g (event.Deliver i f c) = Decides-like _
    (λ h. (
      h.0,
      h.1.0,
      record {
        may = h.1.1.0;
        none_eligible = h.1.1.1.0;
        message = h.1.1.1.1.message;
        rest = h.1.1.1.1.rest;
        front = h.1.1.1.1.front;
        early = h.1.1.1.1.early;
      },
    ))
    (λ h. (
      h.0,
      (
        h.1,
        (
          h.2.may,
          (
            h.2.none_eligible,
            record {
              message = h.2.message;
              rest = h.2.rest;
              front = h.2.front;
              early = h.2.early;
            },
          ),
        ),
      ),
    ))
    (Decides-and _ _ (Decides-ltb i s.shape.nodes) (Decides-and _ _ (Decides-ltb f s.shape.nodes)
    (Decides-and _ _ (may_handle_decides s (g.locals i)) (Decides-and _ _ (stale_decides (g.locals i).deferred)
    (front_decides (g.wires f i c))))))

pub enabled_meaning : (s : Setup) (g : World) (e : Event) (r : Bool) → r ≡ is_enabled s g e → Decides r (IsEnabled s g e)
enabled_meaning s g e r is = subst (λ (b : Bool). Decides b (IsEnabled s g e)) (sym is) (enabled_decides s g e)
