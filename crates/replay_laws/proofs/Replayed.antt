-- A report whose events say what the entries of a run do is replayed.
use Rattle.std.proofs.Common.{◌≡◌, ℕ, zero, suc, ◌+◌, ◌<◌, ◌≤◌, true, false, nat_lt, List, [], ◌∷◌, length, map, take, Option}
use Rattle.std.proofs.Common.{Ok, refl, sym, ap, ◌∙◌, arith}
use Rattle.std.specs.List.{enumerate_from}
use Rattle.std.proofs.lemmas.Bool.{le-ltb}
use Rattle.tw_base.specs.declared.entry.Act.{Act}
use Rattle.tw_base.specs.declared.entry.Act.TheVariants as act
use Rattle.tw_base.specs.declared.entry.Entry.{Entry}
use Rattle.tw_base.specs.declared.message.Message.{Message}
use Rattle.tw_lex.specs.declared.token.What.{What}
use Rattle.dsm_runs.specs.Events.{Acts}
use Rattle.dsm_runs.specs.Locals.{Local}
use Rattle.dsm_runs.specs.Setups.{Setup}
use Rattle.dsm_runs.specs.Tests.{is_enabled}
use Rattle.dsm_runs.specs.Worlds.{Runs, Step, World, event_of, start}
use Rattle.dsm_runs.proofs.OneEntry.{step_enabled}
use Rattle.dsm_runs.proofs.Testing.{enabled_decides}
use Rattle.report_reader.specs.declared.lines.PrintedLine.{PrintedLine}
use Rattle.printed_lines.specs.Tokens.{entry_tokens, whats}
use Rattle.report_replay.specs.Replaying.{Leads}
use Rattle.report_replay.proofs.Leading.{leads-on, made-told}
use Rattle.replay_laws.specs.Laws.{PrintedRunsAreReplayed, said_by}
use Rattle.replay_laws.proofs.Plain.{says-entry}
use Rattle.replay_laws.proofs.Reading.{HasSender, event-named}

sender : (s : Setup) (i : ℕ) (l : Local) (front : Option Message) (l2 : Local) (e : Entry) (sends : List Message) (a : Act) →
    s.shape.nodes ≤ 8 → Acts s i l front l2 e sends a → HasSender a
sender s i l front l2 e sends (act.Delivered kind block from chan number) few acts = let within : from < s.shape.nodes =
    acts.from_node in omega arith
sender s i l front l2 e sends (act.Load address value) few acts = tt
sender s i l front l2 e sends (act.Store address value) few acts = tt
sender s i l front l2 e sends (act.Faa address value sum) few acts = tt
sender s i l front l2 e sends (act.Print value) few acts = tt
sender s i l front l2 e sends act.Halt few acts = tt
sender s i l front l2 e sends (act.Trapped why) few acts = tt
sender s i l front l2 e sends act.Step few acts = tt
sender s i l front l2 e sends (act.Fault store block) few acts = tt
sender s i l front l2 e sends (act.Redelivered kind block from) few acts = tt

-- the line of an entry that a step gave
one : (s : Setup) (g : World) (k : ℕ) (l : PrintedLine) (e : Entry) (next : World) → s.shape.nodes ≤ 8 →
    whats l.tokens ≡ entry_tokens s.protocol (k, e) → Step s g e next → Leads s g k (l ∷ []) (Ok next)
one s g k l e next few is step =
    let here : e.node < s.shape.nodes = step.local.at_node in
    let below : e.node < 8 = omega arith in
    let test : is_enabled s g (event_of e) ≡ true = (enabled_decides s g (event_of e)).1 (step_enabled s g e next step) in
    made-told s g k l (event_of e) e next
    (event-named s.protocol k e l.tokens is below (sender s e.node (g.locals e.node) step.front
    (next.locals e.node) e step.sends e.act few step.local.acts)) test refl step
    (says-entry s.protocol k e (whats l.tokens) is)

-- the state behind the first k of entries and lines
record Reached (s : Setup) (g : World) (k at : ℕ) (es : List Entry) (lines : List PrintedLine) : Type 0 where
  world : World
  runs : Runs s g (take k es) world
  leads : Leads s g at (take k lines) (Ok world)

abbrev told : Setup → ℕ → List Entry → List (List What)
told s at es = map (entry_tokens s.protocol) (enumerate_from at es)

reaching : (s : Setup) (g h : World) (k at : ℕ) (es : List Entry) (lines : List PrintedLine) → s.shape.nodes ≤ 8 →
    Runs s g es h → said_by lines ≡ told s at es → Reached s g k at es lines
reaching s g h zero at es lines few runs say = record { world = g; runs = refl; leads = refl }
reaching s g h (suc k) at [] [] few runs say = record { world = g; runs = refl; leads = refl }
reaching s g h (suc k) at [] (l ∷ ls) few runs say = absurd (cc say)
reaching s g h (suc k) at (e ∷ es) [] few runs say = absurd (cc say)
reaching s g h (suc k) at (e ∷ es) (l ∷ ls) few runs say =
    let first : whats l.tokens ≡ entry_tokens s.protocol (at, e) = cc say in
    let more : said_by ls ≡ told s (at + 1) es = cc say in
    let rest = reaching s runs.0 h k (at + 1) es ls few runs.2 more in
    record {
      world = rest.world;
      runs = (runs.0, runs.1, rest.runs);
      leads = leads-on s g at l (take k ls) runs.0 (Ok rest.world) (one s g at l e runs.0 few first runs.1) rest.leads;
    }

length-said : (lines : List PrintedLine) → length (said_by lines) ≡ length lines
length-said [] = refl
length-said (l ∷ ls) = ap (λ (n : ℕ). suc n) (length-said ls)

length-told : (s : Setup) (at : ℕ) (es : List Entry) → length (told s at es) ≡ length es
length-told s at [] = refl
length-told s at (e ∷ es) = ap (λ (n : ℕ). suc n) (length-told s (at + 1) es)

pub runs-replayed : PrintedRunsAreReplayed
runs-replayed s j g p k setup runs say le =
    let reached = reaching s (start s) g k 0 j p.events setup.limits.nodes runs say in
    let many : length p.events ≡ length j =
    sym (length-said p.events) ∙ ap (λ (ws : List (List What)). length ws) say ∙ length-told s 0 j in
    let no_fewer : nat_lt (length p.events) k ≡ false = le-ltb (length p.events) k (omega arith) in
    record {
      reached = reached.world;
      runs = reached.runs;
      replays = record { made = Ok reached.world; leads = reached.leads; enough = rw no_fewer refl };
    }
