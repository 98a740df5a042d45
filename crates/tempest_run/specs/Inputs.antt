-- What a text sets up: a machine with its programs, and the protocol that it runs under.
use Rattle.std.specs.Prelude.{ℕ, List, Option, Some, None, Result, Ok, Err}
use Rattle.tw_base.specs.Answers.{◌>>=◌}
use Rattle.teapot_tree.specs.declared.protocol.Protocol.{Protocol}
use Rattle.teapot_parse.specs.declared.reading.ParseError.{ParseError}
use Rattle.teapot_parse.specs.declared.reading.ParseError.TheVariants as teapot
use Rattle.teapot_parse.specs.Given.{AreTextLines}
use Rattle.teapot_parse.specs.Parsing.{parsed}
use Rattle.teapot_tree.specs.declared.rule.Rule.{Rule}
use Rattle.teapot_tree.specs.declared.rule.Rule.TheVariants as rules
use Rattle.teapot_rules.specs.declared.fault.Fault.{Fault}
use Rattle.teapot_rules.specs.Firsts.{all_rules, first_of_rules}
use Rattle.stache_protocol.specs.Shipped.{shipped}
use Rattle.stache_d_protocol.specs.Shipped.{shipped_d}
use Rattle.stache_l_protocol.specs.Shipped.{shipped_l}
use Rattle.dsm_runs.specs.Setups.{Setup}
use Rattle.tempest_input.specs.declared.error.InputError.{InputError}
use Rattle.tempest_input.specs.declared.error.InputError.TheVariants as errors
use Rattle.tempest_input.specs.declared.error.Why.{Why}
use Rattle.tempest_input.specs.declared.error.Why.TheVariants as why
use Rattle.tempest_input.specs.declared.head.Shipped.{Shipped}
use Rattle.tempest_input.specs.declared.head.Shipped.TheVariants.{Stache, StacheD, StacheL}
use Rattle.tempest_input.specs.declared.layout.Body.{Body}
use Rattle.tempest_input.specs.declared.layout.Choice.{Choice}
use Rattle.tempest_input.specs.declared.layout.Choice.TheVariants as choices
use Rattle.tempest_input.specs.declared.layout.Ending.{Ending}
use Rattle.tempest_input.specs.Settings.{Settings, settings_and_report}

-- what the lines of a protocol are refused for
abbrev pub unread : ParseError → InputError
unread (teapot.BadLine line) = errors.Refused line why.BadLine
unread (teapot.BadNest line) = errors.Refused line why.BadNest
unread (teapot.TooMany what line) = errors.Refused line why.TooMany
unread teapot.Memory = errors.Memory

abbrev pub in_protocol : Result Protocol ParseError → Result Protocol InputError
in_protocol (Ok p) = Ok p
in_protocol (Err e) = Err (unread e)

abbrev pub broken_rule : Rule → Why
broken_rule rules.Undeclared = why.Undeclared
broken_rule rules.Twice = why.Twice
broken_rule rules.WrongType = why.WrongType
broken_rule rules.ArgCount = why.ArgCount
broken_rule rules.NoDefault = why.NoDefault
broken_rule rules.ContDropped = why.ContDropped
broken_rule rules.ResumeNotLast = why.ResumeNotLast
broken_rule rules.ResumeForeign = why.ResumeForeign
broken_rule rules.AfterSuspend = why.AfterSuspend
broken_rule rules.NoData = why.NoData
broken_rule rules.TooManySends = why.TooManySends
broken_rule rules.NotTwoStarts = why.NotTwoStarts

abbrev pub unless_broken : Option Fault → Protocol → Result Protocol InputError
unless_broken None p = Ok p
unless_broken (Some f) p = Err (errors.Refused f.line (broken_rule f.rule))

-- a protocol that breaks no rule, or its first break
unfoldable pub accepted : Protocol → Result Protocol InputError
accepted p = unless_broken (first_of_rules p all_rules) p

-- the protocol of a section, or its first fault
unfoldable pub section_protocol : Body → Result Protocol InputError
section_protocol body = in_protocol (parsed body.lines body.end) >>= λ p. accepted p

abbrev pub or_memory : Option Protocol → Result Protocol InputError
or_memory (Some p) = Ok p
or_memory None = Err errors.Memory

-- a protocol that is shipped, by its name
abbrev pub shipped_protocol : Shipped → Result Protocol InputError
shipped_protocol Stache = or_memory shipped
shipped_protocol StacheD = or_memory shipped_d
shipped_protocol StacheL = or_memory shipped_l

-- the protocol of the text's section, or the one that it names, else Stache
unfoldable pub protocol_of : Choice → Result Protocol InputError
protocol_of choices.Default = shipped_protocol Stache
protocol_of (choices.Own line body) = section_protocol body
protocol_of (choices.Shipped line which) = shipped_protocol which

-- the lines of the section, if there is one, are as they stand in a text
abbrev pub IsOfText : Choice → Type 0
IsOfText choices.Default = Unit {0}
IsOfText (choices.Own line body) = AreTextLines body.lines
IsOfText (choices.Shipped line which) = Unit {0}

-- settings under a protocol
abbrev pub under : Settings → Protocol → Setup
under s p = record { version = s.version; shape = s.shape; init = s.init; programs = s.programs; protocol = p }

-- What a text sets up and the lines of its report, or its first fault: first of its tokens, then of its layout, of its numbers,
-- of its programs, and of its protocol.
unfoldable pub input_of : Ending → List ℕ → Result (Setup × Body) InputError
input_of ending text = settings_and_report ending text >>= λ i. protocol_of i.0.protocol >>= λ p. Ok (under i.0 p, i.1)

-- what a text without a report sets up
abbrev pub setup_in : Result (Setup × Body) InputError → Result Setup InputError
setup_in input = input >>= λ i. Ok i.0
