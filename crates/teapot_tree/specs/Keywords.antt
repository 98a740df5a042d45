-- The words that are no names.
use Rattle.std.specs.Prelude.{ℕ, ◌&&◌, ◌==◌, codes, if◌then◌else◌, List, [], ◌∷◌, ◌++◌, Bool, false, Option, Some, None}
use Rattle.std.specs.Str.{bytes_eq}
use Rattle.teapot_tree.specs.declared.keyword.Keyword.{Keyword}
use Rattle.teapot_tree.specs.declared.keyword.Keyword.TheVariants as k

abbrev pub spelling_of : Keyword → List ℕ
spelling_of k.Protocol = codes "Protocol"
spelling_of k.Message = codes "Message"
spelling_of k.Info = codes "Info"
spelling_of k.HomeStart = codes "HomeStart"
spelling_of k.CacheStart = codes "CacheStart"
spelling_of k.State = codes "State"
spelling_of k.On = codes "On"
spelling_of k.Default = codes "Default"
spelling_of k.Local = codes "Local"
spelling_of k.Begin = codes "Begin"
spelling_of k.End = codes "End"
spelling_of k.If = codes "If"
spelling_of k.Else = codes "Else"
spelling_of k.Send = codes "Send"
spelling_of k.SendAll = codes "SendAll"
spelling_of k.SetTag = codes "SetTag"
spelling_of k.SetState = codes "SetState"
spelling_of k.Suspend = codes "Suspend"
spelling_of k.Resume = codes "Resume"
spelling_of k.Error = codes "Error"
spelling_of k.Install = codes "Install"
spelling_of k.Enqueue = codes "Enqueue"
spelling_of k.WakeUp = codes "WakeUp"
spelling_of k.ForEach = codes "ForEach"
spelling_of k.Int = codes "Int"
spelling_of k.Bool = codes "Bool"
spelling_of k.Node = codes "Node"
spelling_of k.Set = codes "Set"
spelling_of k.Invalid = codes "Invalid"
spelling_of k.ReadOnly = codes "ReadOnly"
spelling_of k.ReadWrite = codes "ReadWrite"
spelling_of k.True = codes "True"
spelling_of k.False = codes "False"
spelling_of k.Empty = codes "Empty"
spelling_of k.Src = codes "src"
spelling_of k.SelfNode = codes "self"
spelling_of k.Home = codes "home"
spelling_of k.One = codes "One"
spelling_of k.Not = codes "Not"
spelling_of k.Count = codes "Count"
spelling_of k.Has = codes "Has"
spelling_of k.With = codes "With"
spelling_of k.Without = codes "Without"
spelling_of k.Data = codes "data"
spelling_of k.RdFault = codes "RD_FAULT"
spelling_of k.WrFault = codes "WR_FAULT"

-- the words that open the lines of declarations
abbrev pub heading_words : List (List ℕ × Keyword)
heading_words =
    (codes "Protocol", k.Protocol) ∷
    (codes "Message", k.Message) ∷
    (codes "Info", k.Info) ∷
    (codes "HomeStart", k.HomeStart) ∷
    (codes "CacheStart", k.CacheStart) ∷
    (codes "State", k.State) ∷
    (codes "On", k.On) ∷
    (codes "Default", k.Default) ∷
    (codes "Local", k.Local) ∷
    (codes "Begin", k.Begin) ∷
    (codes "End", k.End) ∷
    []

-- those that open the lines of statements, but for that of a loop
abbrev pub statement_words : List (List ℕ × Keyword)
statement_words =
    (codes "If", k.If) ∷
    (codes "Else", k.Else) ∷
    (codes "Send", k.Send) ∷
    (codes "SendAll", k.SendAll) ∷
    (codes "SetTag", k.SetTag) ∷
    (codes "SetState", k.SetState) ∷
    (codes "Suspend", k.Suspend) ∷
    (codes "Resume", k.Resume) ∷
    (codes "Error", k.Error) ∷
    (codes "Install", k.Install) ∷
    (codes "Enqueue", k.Enqueue) ∷
    (codes "WakeUp", k.WakeUp) ∷
    []

-- types and tags
abbrev pub type_words : List (List ℕ × Keyword)
type_words =
    (codes "Int", k.Int) ∷
    (codes "Bool", k.Bool) ∷
    (codes "Node", k.Node) ∷
    (codes "Set", k.Set) ∷
    (codes "Invalid", k.Invalid) ∷
    (codes "ReadOnly", k.ReadOnly) ∷
    (codes "ReadWrite", k.ReadWrite) ∷
    []

-- those of expressions
abbrev pub value_words : List (List ℕ × Keyword)
value_words =
    (codes "True", k.True) ∷
    (codes "False", k.False) ∷
    (codes "Empty", k.Empty) ∷
    (codes "src", k.Src) ∷
    (codes "self", k.SelfNode) ∷
    (codes "home", k.Home) ∷
    (codes "One", k.One) ∷
    (codes "Not", k.Not) ∷
    (codes "Count", k.Count) ∷
    (codes "Has", k.Has) ∷
    (codes "With", k.With) ∷
    (codes "Without", k.Without) ∷
    []

-- the data of a message, and the faults
abbrev pub other_words : List (List ℕ × Keyword)
other_words =
    (codes "data", k.Data) ∷
    (codes "RD_FAULT", k.RdFault) ∷
    (codes "WR_FAULT", k.WrFault) ∷
    []

-- the keyword of the first entry with this spelling, or the other one where none has it
abbrev pub spelled : List (List ℕ × Keyword) → List ℕ → Option Keyword → Option Keyword
spelled [] word other = other
spelled (w ∷ ws) word other = if bytes_eq word w.0 then Some w.1 else spelled ws word other

-- the words of both profiles
abbrev pub common_words : List (List ℕ × Keyword)
common_words = heading_words ++ statement_words ++ type_words ++ value_words ++ other_words

abbrev pub begins : ℕ → List ℕ → Bool
begins letter [] = false
begins letter (b ∷ bs) = letter == b

abbrev pub beginning : ℕ → List (List ℕ × Keyword) → List (List ℕ × Keyword)
beginning letter [] = []
beginning letter (w ∷ ws) = (if begins letter w.0 then w ∷ [] else []) ++ beginning letter ws

-- those of them that begin with the letter
unfoldable pub with_letter : ℕ → List (List ℕ × Keyword)
with_letter letter = beginning letter common_words

-- `ForEach` is a keyword in profile 2 alone
unfoldable pub keyword_of : ℕ → List ℕ → Option Keyword
keyword_of profile word =
    spelled heading_words word (
    spelled statement_words word (
    if (profile == 2) && bytes_eq word (codes "ForEach") then Some k.ForEach else
    spelled type_words word (
    spelled value_words word (
    spelled other_words word None))))
