-- The instructions of a report that the flat machine executed.
use Rattle.std.proofs.Common.{◌≡◌, ℕ, if◌then◌else◌, Bool, true, false, List, [], ◌∷◌, ◌++◌, drop, Option, Some, None, Result}
use Rattle.std.proofs.Common.{Ok, Err, refl, sym, ap, subst, ◌∙◌, append_assoc}
use Rattle.std.proofs.lemmas.List.{append-nil}
use Rattle.tw_base.specs.Answers.{◌>>=◌}
use Rattle.tw_base.specs.declared.entry.Act.{Act}
use Rattle.mini_asm.specs.Laws.{Pairwise}
use Rattle.mini_asm.specs.Run.{Machine}
use Rattle.teapot_tree.specs.declared.protocol.Protocol.{Protocol}
use Rattle.dsm_runs.specs.Flat.{flat_step}
use Rattle.report_reader.specs.declared.error.AuditError.{AuditError}
use Rattle.report_reader.specs.declared.error.AuditError.TheVariants.{Denied}
use Rattle.report_reader.specs.declared.error.AuditRule.TheVariants.{WrongAct}
use Rattle.report_reader.specs.declared.lines.PrintedLine.{PrintedLine}
use Rattle.printed_lines.specs.Reading.{node_of}
use Rattle.printed_lines.specs.Saying.{says}
use Rattle.printed_lines.specs.Tokens.{act_tokens, whats}
use Rattle.report_audit.specs.declared.due.Due.{Due}
use Rattle.report_audit.specs.declared.execute.Executed.{Executed}
use Rattle.report_audit.specs.Executing.{executed, executed_as, executed_at, executed_if, is_completed, line_executed, print_due}
use Rattle.audit_meaning.specs.Laws.{Executes, TellsOf, completions, printed_by}
use Rattle.audit_meaning.proofs.Said.{says-is}

-- ---- a value that is handed on

pub record Bound {A B : Type 0} (r : Result A AuditError) (f : A → Result B AuditError) (y : B) : Type 0 where
  pub value : A
  pub is : r ≡ Ok value
  pub gives : f value ≡ Ok y

pub bound : {A B : Type 0} (r : Result A AuditError) (f : A → Result B AuditError) (y : B) → (r >>= f) ≡ Ok y → Bound r f y
bound (Ok x) f y e = record { value = x; is = refl; gives = e }
bound (Err e) f y h = absurd (cc h)

-- ---- one line

-- the machine executed an instruction of which the line tells
record LineDone (p : Protocol) (x : Executed) (l : PrintedLine) (y : Executed) : Type 0 where
  done : ℕ × Act
  step : flat_step x.flat done.0 ≡ Some (done.1, y.flat)
  tells : TellsOf p l done
  prints : y.prints ≡ x.prints ++ print_due done.0 done.1

done-as : (p : Protocol) (x y : Executed) (l : PrintedLine) (node : ℕ) (o : Option (Act × Machine)) →
    node_of l.tokens ≡ Some node → flat_step x.flat node ≡ o → executed_as p x l node o ≡ Ok y →
    LineDone p x l y
done-as p x y l node None named step e = absurd (cc e)
done-as p x y l node (Some did) named step e = go (says (act_tokens p did.0) (whats (drop 6 l.tokens))) refl e
  where
    go : (b : Bool) → says (act_tokens p did.0) (whats (drop 6 l.tokens)) ≡ b →
        (if b then Ok (record { flat = did.1; prints = x.prints ++ print_due node did.0 }) else Err (Denied l.line WrongAct))
        ≡ Ok y → LineDone p x l y
    go true is f =
        let same : record { flat = did.1; prints = x.prints ++ print_due node did.0 } ≡ y = cc f in
        subst (λ (z : Executed). LineDone p x l z) same
        (record {
          done = (node, did.0);
          step = step;
          tells = record
              { node = named; act = says-is (act_tokens p did.0) (whats (drop 6 l.tokens)) is };
          prints = refl;
        })
    go false is f = absurd (cc f)

done-at : (p : Protocol) (x y : Executed) (l : PrintedLine) (o : Option ℕ) → node_of l.tokens ≡ o →
    executed_at p x l o ≡ Ok y → LineDone p x l y
done-at p x y l None named e = absurd (cc e)
done-at p x y l (Some node) named e = done-as p x y l node (flat_step x.flat node) named refl e

-- ---- all lines

pub record AllDone (p : Protocol) (x : Executed) (lines : List PrintedLine) (y : Executed) : Type 0 where
  pub done : List (ℕ × Act)
  pub executes : Executes x.flat done y.flat
  pub tells : Pairwise (TellsOf p) (completions lines) done
  pub prints : y.prints ≡ x.prints ++ printed_by done

with-line : (p : Protocol) (x y z : Executed) (l : PrintedLine) (ls : List PrintedLine) → is_completed l.tokens ≡ true →
    LineDone p x l y → AllDone p y ls z → AllDone p x (l ∷ ls) z
with-line p x y z l ls is one all =
    record {
      done = one.done ∷ all.done;
      executes = (y.flat, one.step, all.executes);
      tells = rw is (one.tells, all.tells);
      prints =
          all.prints ∙ ap (λ (ds : List Due). ds ++ printed_by all.done) one.prints
          ∙ append_assoc x.prints (print_due one.done.0 one.done.1) (printed_by all.done);
    }

without-line : (p : Protocol) (x y z : Executed) (l : PrintedLine) (ls : List PrintedLine) → is_completed l.tokens ≡ false →
    x ≡ y → AllDone p y ls z → AllDone p x (l ∷ ls) z
without-line p x y z l ls is same all =
    let here = subst (λ (w : Executed). AllDone p w ls z) (sym same) all in
    record { done = here.done; executes = here.executes; tells = rw is here.tells; prints = here.prints }

line-done : (p : Protocol) (x y z : Executed) (l : PrintedLine) (ls : List PrintedLine) (b : Bool) →
    is_completed l.tokens ≡ b → executed_if b p x l ≡ Ok y → AllDone p y ls z → AllDone p x (l ∷ ls) z
line-done p x y z l ls true is e all = with-line p x y z l ls is (done-at p x y l (node_of l.tokens) refl e) all
line-done p x y z l ls false is e all = let same : x ≡ y = cc e in without-line p x y z l ls is same all

pub all-done : (p : Protocol) (x z : Executed) (lines : List PrintedLine) → executed p x lines ≡ Ok z → AllDone p x lines z
unfolding executed line_executed
all-done p x z [] e =
    let same : x ≡ z = cc e in
    subst (λ (w : Executed). AllDone p x [] w) same (record {
      done = [];
      executes = refl;
      tells = tt;
      prints = sym (append-nil x.prints);
    })
all-done p x z (l ∷ ls) e =
    let b = bound (line_executed p x l) (λ next. executed p next ls) z e in
    line-done p x b.value z l ls (is_completed l.tokens) refl b.is (all-done p b.value z ls b.gives)
