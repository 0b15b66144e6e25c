-- What a script says, line by line, with the first fault
use Rattle.std.specs.Prelude.{◌≡◌, ℕ, ◌+◌, Bool, true, not, ◌==◌, ◌||◌, ◌&&◌, nat_lt, nat_le, List, [], ◌∷◌, ◌++◌, length, map, Option, None, Some, Result, Ok, Err, if◌then◌else◌, slice_index, drop}
use Rattle.std.specs.List.{list_all, before_first, after_first}
use Rattle.std.specs.Result.{result_ok}
use Rattle.std.specs.Str.Parse.{digits_value}
use Rattle.std.specs.Char.{is_ascii_digit}
use Rattle.bstr.specs.Text.{lines_of, without_terminator}
use Rattle.hla_base.specs.Limits.{max_script, max_script_line, largest_number}
use Rattle.hla_commands.specs.declared.lines.Command.{Command}
use Rattle.hla_commands.specs.declared.lines.Command.TheVariants as command
use Rattle.hla_catalogue.specs.declared.declared.Order.{Order}
use Rattle.hla_machine.specs.declared.service.ResignAction.{ResignAction}
use Rattle.hla_commands.specs.declared.lines.Declaration.{Declaration}
use Rattle.hla_commands.specs.declared.lines.Call.{Call}
use Rattle.hla_commands.specs.declared.lines.Call.TheVariants as call
use Rattle.hla_commands.specs.declared.lines.NameValuePair.{NameValuePair}
use Rattle.hla_commands.specs.declared.lines.ScriptFaultKind.{ScriptFaultKind}
use Rattle.hla_commands.specs.declared.lines.ScriptFaultKind.TheVariants as kind
use Rattle.hla_commands.specs.declared.lines.Line.{Line}
use Rattle.hla_commands.specs.declared.lines.ScriptFault.{ScriptFault}
use Rattle.hla_commands.specs.declared.vocabulary.Opening.{Opening}
use Rattle.hla_commands.specs.declared.vocabulary.Opening.TheVariants as opening
use Rattle.hla_commands.specs.declared.vocabulary.TimeVerb.{TimeVerb}
use Rattle.hla_commands.specs.declared.vocabulary.TimeVerb.TheVariants as time
use Rattle.hla_commands.specs.declared.vocabulary.Verb.{Verb}
use Rattle.hla_commands.specs.declared.vocabulary.Verb.TheVariants as verb
use Rattle.hla_commands.specs.Vocabulary.{opening_of, verb_of, action_of, order_named}
use Rattle.hla_commands.specs.Words.{words_of}
use Rattle.hla_commands.specs.Reading.{Reading, read_then}

-- a name from the FED file
abbrev pub name_in : List (List ℕ) → Reading (List ℕ)
name_in [] = Err kind.MissingWord
name_in (word ∷ words) = Ok (word, words)

-- a name that may be left out
abbrev pub optional_in : List (List ℕ) → Reading (Option (List ℕ))
optional_in [] = Ok (None, [])
optional_in (word ∷ words) = Ok (Some word, words)

-- names up to the end of the line
abbrev pub names_in : List (List ℕ) → Reading (List (List ℕ))
names_in words = Ok (words, [])

abbrev pub action_where : Option ResignAction → List (List ℕ) → Reading ResignAction
action_where None words = Err kind.BadWord
action_where (Some a) words = Ok (a, words)

abbrev pub action_in : List (List ℕ) → Reading ResignAction
action_in [] = Err kind.MissingWord
action_in (word ∷ words) = action_where (action_of word) words

abbrev pub order_where : Option Order → List (List ℕ) → Reading Order
order_where None words = Err kind.BadWord
order_where (Some o) words = Ok (o, words)

abbrev pub order_in : List (List ℕ) → Reading Order
order_in [] = Err kind.MissingWord
order_in (word ∷ words) = order_where (order_named word) words

-- the number that decimal digits say, if it is not above the largest
unfoldable pub word_number : List ℕ → Result ℕ ScriptFaultKind
word_number word =
    if length word == 0 || not (list_all is_ascii_digit word) || nat_lt largest_number (digits_value 10 word) then Err kind.BadNumber
    else Ok (digits_value 10 word)

abbrev pub number_word : List (List ℕ) → Reading ℕ
number_word [] = Err kind.MissingWord
number_word (word ∷ words) = read_then (word_number word) (λ n. Ok (n, words))

abbrev pub federate_where : Opening → List ℕ → List (List ℕ) → Reading (List ℕ)
federate_where opening.Federate word words = Ok (word, words)
federate_where other word words = Err kind.BadWord

-- a federate's name, which is no word that opens another command
abbrev pub federate_in : List (List ℕ) → Reading (List ℕ)
federate_in [] = Err kind.MissingWord
federate_in (word ∷ words) = federate_where (opening_of word) word words

-- a name and a value round the first `=`; the name is not empty
unfoldable pub pair_of : List ℕ → Result NameValuePair ScriptFaultKind
pair_of word =
    if length (before_first (λ b. b == 61) word) == 0 || length (before_first (λ b. b == 61) word) == length word then Err kind.BadWord
    else Ok (record { name = before_first (λ b. b == 61) word; value = after_first (λ b. b == 61) word })

-- the ticks of a stamp, which is an `@` and a number, if the word is one
unfoldable pub word_stamp : List ℕ → Option ℕ
word_stamp word = if nat_lt 0 (length word) && slice_index word 0 == 64 then result_ok (word_number (drop 1 word)) else None

abbrev pub stamp_where : Option ℕ → List (List ℕ) → Reading (Option ℕ)
stamp_where None words = Err kind.BadWord
stamp_where (Some ticks) words = Ok (Some ticks, words)

-- a stamp that may be left out
abbrev pub optional_stamp_in : List (List ℕ) → Reading (Option ℕ)
optional_stamp_in [] = Ok (None, [])
optional_stamp_in (word ∷ words) = stamp_where (word_stamp word) words

-- where a word is a stamp, it ends the pairs; another is a pair, and there may be more behind it
abbrev pub pairs_where : Option ℕ → Result NameValuePair ScriptFaultKind → List (List ℕ) → Reading (List NameValuePair × Option ℕ) → Reading (List NameValuePair × Option ℕ)
pairs_where (Some ticks) pair words later = Ok (([], Some ticks), words)
pairs_where None pair words later = read_then pair (λ p. read_then later (λ ps. Ok ((p ∷ ps.0.0, ps.0.1), ps.1)))

-- pairs up to the end of the line, or up to a stamp, and that stamp
abbrev pub pairs_and_stamp : List (List ℕ) → Reading (List NameValuePair × Option ℕ)
pairs_and_stamp [] = Ok (([], None), [])
pairs_and_stamp (word ∷ words) = pairs_where (word_stamp word) (pair_of word) words (pairs_and_stamp words)

abbrev pub both_numbers : Option ℕ → Option ℕ → Option (ℕ × ℕ)
both_numbers (Some sender) (Some serial) = Some (sender, serial)
both_numbers sender serial = None

-- the sender and the serial of a message, two numbers round the first `.`, if the word is its handle
unfoldable pub word_handle : List ℕ → Option (ℕ × ℕ)
word_handle word =
    if length (before_first (λ b. b == 46) word) == length word then None
    else both_numbers (result_ok (word_number (before_first (λ b. b == 46) word))) (result_ok (word_number (after_first (λ b. b == 46) word)))

abbrev pub handle_where : Option (ℕ × ℕ) → List (List ℕ) → Reading (ℕ × ℕ)
handle_where None words = Err kind.BadWord
handle_where (Some handle) words = Ok (handle, words)

abbrev pub handle_in : List (List ℕ) → Reading (ℕ × ℕ)
handle_in [] = Err kind.MissingWord
handle_in (word ∷ words) = handle_where (word_handle word) words

-- an object class that is published or subscribed, with its attributes
abbrev pub declare_object_in : Declaration → List (List ℕ) → Reading Call
declare_object_in d words = read_then (name_in words) (λ n. read_then (names_in n.1) (λ a. Ok (call.DeclareObject d n.0 a.0, a.1)))

abbrev pub register_in : List (List ℕ) → Reading Call
register_in words = read_then (name_in words) (λ n. read_then (optional_in n.1) (λ o. Ok (call.Register n.0 o.0, o.1)))

abbrev pub update_in : List (List ℕ) → Reading Call
update_in words = read_then (number_word words) (λ h. read_then (name_in h.1) (λ n. read_then (pairs_and_stamp n.1) (λ ps. Ok (call.Update h.0 n.0 ps.0.0 ps.0.1, ps.1))))

abbrev pub send_in : List (List ℕ) → Reading Call
send_in words = read_then (name_in words) (λ n. read_then (pairs_and_stamp n.1) (λ ps. Ok (call.Send n.0 ps.0.0 ps.0.1, ps.1)))

abbrev pub delete_in : List (List ℕ) → Reading Call
delete_in words = read_then (number_word words) (λ h. read_then (optional_stamp_in h.1) (λ s. Ok (call.Delete h.0 s.0, s.1)))

abbrev pub attribute_order_in : List (List ℕ) → Reading Call
attribute_order_in words =
    read_then (number_word words) (λ h. read_then (name_in h.1) (λ n. read_then (order_in n.1) (λ o. read_then (names_in o.1) (λ a. Ok (call.ChangeAttributeOrder h.0 n.0 o.0 a.0, a.1)))))

abbrev pub interaction_order_in : List (List ℕ) → Reading Call
interaction_order_in words = read_then (name_in words) (λ n. read_then (order_in n.1) (λ o. Ok (call.ChangeInteractionOrder n.0 o.0, o.1)))

abbrev pub regulate_in : List (List ℕ) → Reading Call
regulate_in words = read_then (number_word words) (λ t. read_then (number_word t.1) (λ l. Ok (call.EnableTimeRegulation t.0 l.0, l.1)))

abbrev pub retract_in : List (List ℕ) → Reading Call
retract_in words = read_then (handle_in words) (λ h. Ok (call.Retract h.0.0 h.0.1, h.1))

-- a verb of time management with its words
abbrev pub time_call_by : TimeVerb → List (List ℕ) → Reading Call
time_call_by time.EnableTimeRegulation words = regulate_in words
time_call_by time.DisableTimeRegulation words = Ok (call.DisableTimeRegulation, words)
time_call_by time.EnableTimeConstrained words = Ok (call.EnableTimeConstrained, words)
time_call_by time.DisableTimeConstrained words = Ok (call.DisableTimeConstrained, words)
time_call_by (time.RequestAdvance k) words = read_then (number_word words) (λ t. Ok (call.RequestAdvance k t.0, t.1))
time_call_by time.ModifyLookahead words = read_then (number_word words) (λ l. Ok (call.ModifyLookahead l.0, l.1))
time_call_by time.EnableAsynchronousDelivery words = Ok (call.EnableAsynchronousDelivery, words)
time_call_by time.DisableAsynchronousDelivery words = Ok (call.DisableAsynchronousDelivery, words)
time_call_by time.Retract words = retract_in words
time_call_by time.QueryLbts words = Ok (call.QueryLbts, words)
time_call_by time.QueryFederateTime words = Ok (call.QueryFederateTime, words)
time_call_by time.QueryMinNextEventTime words = Ok (call.QueryMinNextEventTime, words)
time_call_by time.QueryLookahead words = Ok (call.QueryLookahead, words)

-- a verb with its words
abbrev pub call_by : Verb → List (List ℕ) → Reading Call
call_by verb.Tick words = Ok (call.Tick, words)
call_by verb.Resign words = read_then (action_in words) (λ a. Ok (call.Resign a.0, a.1))
call_by (verb.DeclareObject d) words = declare_object_in d words
call_by (verb.WithdrawObject d) words = read_then (name_in words) (λ n. Ok (call.WithdrawObject d n.0, n.1))
call_by (verb.DeclareInteraction d) words = read_then (name_in words) (λ n. Ok (call.DeclareInteraction d n.0, n.1))
call_by (verb.WithdrawInteraction d) words = read_then (name_in words) (λ n. Ok (call.WithdrawInteraction d n.0, n.1))
call_by verb.Register words = register_in words
call_by verb.Update words = update_in words
call_by verb.Send words = send_in words
call_by verb.Delete words = delete_in words
call_by verb.AttributeOrder words = attribute_order_in words
call_by verb.InteractionOrder words = interaction_order_in words
call_by verb.RegisterPoint words = read_then (name_in words) (λ n. Ok (call.RegisterPoint n.0, n.1))
call_by verb.AchievePoint words = read_then (name_in words) (λ n. Ok (call.AchievePoint n.0, n.1))
call_by verb.ObjectHandle words = read_then (name_in words) (λ n. Ok (call.ObjectHandle n.0, n.1))
call_by verb.ObjectName words = read_then (number_word words) (λ h. Ok (call.ObjectName h.0, h.1))
call_by (verb.Time v) words = time_call_by v words

abbrev pub call_where : Option Verb → List (List ℕ) → Reading Call
call_where None words = Err kind.UnknownWord
call_where (Some v) words = call_by v words

-- what a federate does
abbrev pub call_in : List (List ℕ) → Reading Call
call_in [] = Err kind.MissingWord
call_in (word ∷ words) = call_where (verb_of word) words

-- a command by its first word
abbrev pub command_by : Opening → List ℕ → List (List ℕ) → Reading Command
command_by opening.Create word words = Ok (command.Create, words)
command_by opening.Destroy word words = Ok (command.Destroy, words)
command_by opening.Join word words = read_then (federate_in words) (λ n. Ok (command.Join n.0, n.1))
command_by opening.Carry word words = read_then (federate_in words) (λ from. read_then (federate_in from.1) (λ to. Ok (command.Carry from.0 to.0, to.1)))
command_by opening.Announce word words = read_then (federate_in words) (λ n. Ok (command.Announce n.0, n.1))
command_by opening.Federate word words = read_then (call_in words) (λ c. Ok (command.Federate word c.0, c.1))

-- a command takes all words
abbrev pub whole_command : Command × List (List ℕ) → Result (Option Command) ScriptFaultKind
whole_command (c, []) = Ok (Some c)
whole_command (c, word ∷ words) = Err kind.ExtraWord

-- what the words of a line ask for; a blank line asks for nothing
abbrev pub command_in : List (List ℕ) → Result (Option Command) ScriptFaultKind
command_in [] = Ok None
command_in (word ∷ words) = read_then (command_by (opening_of word) word words) whole_command

-- a space, a tab or visible ASCII
unfoldable pub is_plain : ℕ → Bool
is_plain b = b == 9 || (nat_le 32 b && nat_le b 126)

-- a byte that a line may have, or one that ends it
abbrev pub is_text : ℕ → Bool
is_text b = b == 10 || is_plain b

-- where their text was tested whole, each of these lines has only bytes that it may have
abbrev pub ArePlain : Bool → List (List ℕ) → Type 0
ArePlain tested [] = Unit {0}
ArePlain tested (line ∷ lines) = (tested ≡ true → list_all is_plain line ≡ true) × ArePlain tested lines

-- what a line asks for; a blank line and one that begins with `#` ask for nothing
unfoldable pub command_of : List ℕ → Result (Option Command) ScriptFaultKind
command_of line =
    if nat_lt max_script_line (length line) then Err kind.TooLarge
    else if not (list_all is_plain line) then Err kind.BadByte
    else if nat_lt 0 (length line) && slice_index line 0 == 35 then Ok None
    else command_in (words_of line)

abbrev pub line_then : Result (Option Command) ScriptFaultKind → ℕ → Result (List Line) ScriptFault → Result (List Line) ScriptFault
line_then (Ok None) n later = later
line_then (Ok (Some c)) n (Ok ls) = Ok (record { number = n; command = c } ∷ ls)
line_then (Ok (Some c)) n (Err e) = Err e
line_then (Err k) n later = Err (record { line = n; kind = k })

-- what lines ask for that stand behind so many others
unfoldable pub script_from : ℕ → List (List ℕ) → Result (List Line) ScriptFault
script_from n [] = Ok []
script_from n (l ∷ ls) = line_then (command_of l) (n + 1) (script_from (n + 1) ls)

-- what a script asks for, or its first fault; a CR before a line's LF is no part of the line
abbrev pub script_of : List ℕ → Result (List Line) ScriptFault
script_of text =
    if nat_lt max_script (length text) then Err (record { line = 1; kind = kind.TooLarge })
    else script_from 0 (map without_terminator (lines_of text))

abbrev pub IsFirstScriptFault : ℕ → ScriptFaultKind → Result (List Line) ScriptFault → Type 0
IsFirstScriptFault line kind.OutOfMemory meant = Unit {0}
IsFirstScriptFault line k meant = meant ≡ Err (record { line = line; kind = k })

-- the answer is what is meant, or that memory ran out, in some line
abbrev pub ParsesAs : Result (List Line) ScriptFault → Result (List Line) ScriptFault → Type 0
ParsesAs (Ok ls) meant = meant ≡ Ok ls
ParsesAs (Err e) meant = IsFirstScriptFault e.line e.kind meant

-- lines that were read before, and what is read then
abbrev pub with_front : List Line → Result (List Line) ScriptFault → Result (List Line) ScriptFault
with_front front (Ok ls) = Ok (front ++ ls)
with_front front (Err e) = Err e
