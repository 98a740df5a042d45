-- Bodies, a statement at a time.
use Rattle.std.specs.Prelude.{ℕ, Some, None}
use Rattle.teapot_tree.specs.declared.stmt.Do.{Do, out-Do}
use Rattle.teapot_tree.specs.declared.stmt.Do.TheOpen.{Do-F}
use Rattle.teapot_tree.specs.declared.stmt.Stmt.{Stmt}
use Rattle.teapot_tree.specs.Bodies.{assign, send, send_all, set_tag, set_state, suspend, resume, install, enqueue, wake_up}
use Rattle.teapot_tree.specs.Bodies.{error, Body, done, plain, branch, branches, loop, each, body_of}

-- one after the other
abbrev pub append : Body → Body → Body
append done c = c
append (plain line s b) c = plain line s (append b c)
append (branch line e x b) c = branch line e x (append b c)
append (branches line e x y b) c = branches line e x y (append b c)
append (loop line v e x b) c = loop line v e x (append b c)
append (each line v s x b) c = each line v s x (append b c)

abbrev pub layer_body : ℕ → Do-F Do Stmt → Body
layer_body line (Do-F.Assign n e) = plain line (assign n e) done
layer_body line (Do-F.If e xs None) = branch line e (body_of xs) done
layer_body line (Do-F.If e xs (Some ys)) = branches line e (body_of xs) (body_of ys) done
layer_body line (Do-F.Send e n xs) = plain line (send e n xs) done
layer_body line (Do-F.SendAll e n xs) = plain line (send_all e n xs) done
layer_body line (Do-F.SetTag t) = plain line (set_tag t) done
layer_body line (Do-F.SetState n xs) = plain line (set_state n xs) done
layer_body line (Do-F.Suspend l n xs p) = plain line (suspend l n xs p) done
layer_body line (Do-F.Resume n) = plain line (resume n) done
layer_body line Do-F.Install = plain line install done
layer_body line Do-F.Enqueue = plain line enqueue done
layer_body line Do-F.WakeUp = plain line wake_up done
layer_body line (Do-F.Error n) = plain line (error n) done
layer_body line (Do-F.ForEach n e xs) = loop line n e (body_of xs) done
layer_body line (Do-F.Each n s xs) = each line n s (body_of xs) done

-- a statement by itself
abbrev pub stmt_body : Stmt → Body
stmt_body s = layer_body s.line (out-Do s.what)
