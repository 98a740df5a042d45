-- What is found on the way to the protocol of a text that is known to be an accepted one's.
use Rattle.std.proofs.Common.{◌≡◌, ◌∙◌, ℕ, List, Option, Some, Result, ap, subst, sym}
use Rattle.std.specs.Prelude.{Ok, Err}
use Rattle.tw_lex.specs.Lines.{lexed}
use Rattle.tw_lex.specs.declared.token.Lexed.{Lexed}
use Rattle.tw_lex.specs.declared.token.LexError.{LexError}
use Rattle.teapot_parse.specs.Parsing.{parsed}
use Rattle.teapot_parse.specs.declared.reading.ParseError.{ParseError}
use Rattle.teapot_tree.specs.Rules.{IsAccepted}
use Rattle.teapot_tree.specs.declared.protocol.Protocol.{Protocol}
use Rattle.protocol_texts.specs.Texts.{IsAcceptedText, protocol_of, read_in, tree_in}

no-fault : (r : Result Lexed LexError) (e : LexError) (p : Protocol) → tree_in r ≡ Some p → r ≡ Err e → ⊥
no-fault (Ok found) e p t h = absurd cc
no-fault (Err x) e p t h = absurd cc

pub lexes-well : (text : List ℕ) → IsAcceptedText text → (e : LexError) → lexed text ≡ Err e → ⊥
unfolding protocol_of
lexes-well text is e h = no-fault (lexed text) e is.0 is.1 h

no-refusal : (r : Result Protocol ParseError) (e : ParseError) (p : Protocol) → read_in r ≡ Some p → r ≡ Err e → ⊥
no-refusal (Ok q) e p t h = absurd cc
no-refusal (Err x) e p t h = absurd cc

pub reads-well : (text : List ℕ) → IsAcceptedText text → (found : Lexed) (e : ParseError) → lexed text ≡ Ok found →
    parsed found.list found.all ≡ Err e → ⊥
unfolding protocol_of
reads-well text is found e l h =
    let t : read_in (parsed found.list found.all) ≡ Some is.0 = sym (ap tree_in l) ∙ is.1 in
    no-refusal (parsed found.list found.all) e is.0 t h

pub reads-as : (text : List ℕ) (found : Lexed) (p : Protocol) → lexed text ≡ Ok found → parsed found.list found.all ≡ Ok p →
    protocol_of text ≡ Some p
unfolding protocol_of
reads-as text found p l r = ap tree_in l ∙ ap read_in r

some-one : (p q : Protocol) (o : Option Protocol) → o ≡ Some p → o ≡ Some q → q ≡ p
some-one p q o a b = cc

pub accepts : (text : List ℕ) → IsAcceptedText text → (c : Protocol) → protocol_of text ≡ Some c → IsAccepted c
accepts text is c e = subst IsAccepted (some-one c is.0 (protocol_of text) e is.1) is.2
