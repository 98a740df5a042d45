-- Trees with every line number 0, so that two trees with equal bare trees are the same but for line numbers.
use Rattle.std.specs.Prelude.{List, map}
use Rattle.teapot_tree.specs.declared.protocol.Handler.{Handler}
use Rattle.teapot_tree.specs.declared.protocol.MessageDecl.{MessageDecl}
use Rattle.teapot_tree.specs.declared.protocol.Param.{Param}
use Rattle.teapot_tree.specs.declared.protocol.Protocol.{Protocol}
use Rattle.teapot_tree.specs.declared.protocol.Start.{Start}
use Rattle.teapot_tree.specs.declared.protocol.State.{State}
use Rattle.teapot_tree.specs.declared.stmt.Do.{Do, roll-Do, fold-Do}
use Rattle.teapot_tree.specs.declared.stmt.Stmt.{Stmt, fold-Stmt}

unfoldable pub bare : Stmt → Stmt
bare = fold-Stmt Do Stmt roll-Do (λ s. record { what = s.what; line = 0 })

unfoldable pub bare_do : Do → Do
bare_do = fold-Do Do Stmt roll-Do (λ s. record { what = s.what; line = 0 })

abbrev pub bare_all : List Stmt → List Stmt
bare_all stmts = map bare stmts

abbrev pub bare_param : Param → Param
bare_param a = record a { line = 0 }

abbrev pub bare_message : MessageDecl → MessageDecl
bare_message m = record m { line = 0 }

abbrev pub bare_start : Start → Start
bare_start s = record s { line = 0 }

abbrev pub bare_handler : Handler → Handler
bare_handler h = record { on = h.on; args = h.args; locals = map bare_param h.locals; body = bare_all h.body; line = 0 }

abbrev pub bare_state : State → State
bare_state s = record {
  name = s.name;
  params = map bare_param s.params;
  cont = s.cont;
  handlers = map bare_handler s.handlers;
  line = 0;
}

abbrev pub bare_protocol : Protocol → Protocol
bare_protocol p = record {
  name = p.name;
  profile = p.profile;
  line = 0;
  messages = map bare_message p.messages;
  infos = map bare_param p.infos;
  starts = map bare_start p.starts;
  states = map bare_state p.states;
}
