-- The plain forms of the command line: a command, and behind it options with their values, in any order.
use Rattle.std.specs.Prelude.{◌≡◌, ◌≤◌, ◌⊎◌, ℕ, Bool, true, false, ◌&&◌, if◌then◌else◌, List, [], ◌∷◌, Option, Some, None, is_none, find, codes}
use Rattle.std.specs.Str.{bytes_eq}
use Rattle.std.specs.Option.{option_and_then, option_map}
use Rattle.mlp_syntax.specs.declared.major.Kind.{Kind}
use Rattle.mlp_fold.specs.declared.profile.Mix.{Mix}
use Rattle.mlp_fold.specs.declared.profile.Profile.{Profile}
use Rattle.mlp_tool.specs.Numbers.{number_of}
use Rattle.mlp_tool.specs.Values.{presentation_of, bits_by, kind_of, rate_of, channels_of, depth_of, mix_by, units_of, seed_of}
use Rattle.mlp_tool.specs.declared.words.Verb.{Verb}
use Rattle.mlp_tool.specs.declared.words.Verb.TheVariants as verb
use Rattle.mlp_tool.specs.declared.words.Name.{Name}
use Rattle.mlp_tool.specs.declared.words.Name.TheVariants.{Presentation, Bits, First, Count, Format, Rate, Channels, Mix as Mixed, Units, Seed}
use Rattle.mlp_tool.specs.declared.words.Command.{Command}
use Rattle.mlp_tool.specs.declared.words.Command.TheVariants as command

abbrev pub verb_of : List ℕ → Option Verb
verb_of word =
    if bytes_eq word (codes "decode-raw") then Some verb.DecodeRaw
    else if bytes_eq word (codes "decode-wav") then Some verb.DecodeWav
    else if bytes_eq word (codes "extract") then Some verb.Extract
    else if bytes_eq word (codes "list") then Some verb.List
    else if bytes_eq word (codes "check") then Some verb.Check
    else if bytes_eq word (codes "cut") then Some verb.Cut
    else if bytes_eq word (codes "recover") then Some verb.Recover
    else if bytes_eq word (codes "retime") then Some verb.Retime
    else if bytes_eq word (codes "encode-raw") then Some verb.EncodeRaw
    else if bytes_eq word (codes "encode-wav") then Some verb.EncodeWav
    else if bytes_eq word (codes "gen") then Some verb.Gen
    else None

abbrev pub word_of : Name → List ℕ
word_of Presentation = codes "--presentation"
word_of Bits = codes "--bits"
word_of First = codes "--first"
word_of Count = codes "--count"
word_of Format = codes "--format"
word_of Rate = codes "--rate"
word_of Channels = codes "--channels"
word_of Mixed = codes "--mix"
word_of Units = codes "--units"
word_of Seed = codes "--seed"

abbrev pub options_of : Verb → List Name
options_of verb.DecodeRaw = Presentation ∷ Bits ∷ []
options_of verb.DecodeWav = Presentation ∷ Bits ∷ []
options_of verb.Extract = Presentation ∷ []
options_of verb.List = []
options_of verb.Check = Presentation ∷ []
options_of verb.Cut = First ∷ Count ∷ []
options_of verb.Recover = Presentation ∷ []
options_of verb.Retime = []
options_of verb.EncodeRaw = Format ∷ Rate ∷ Channels ∷ Bits ∷ Mixed ∷ []
options_of verb.EncodeWav = Format ∷ Mixed ∷ []
options_of verb.Gen = Format ∷ Rate ∷ Channels ∷ Bits ∷ Mixed ∷ Units ∷ Seed ∷ []

-- the option that a word names, among these
abbrev pub option_of : List Name → List ℕ → Option Name
option_of names word = find (λ name. bytes_eq word (word_of name)) names

-- the value behind an option's first name
abbrev pub value_of : Name → List (List ℕ) → Option (List ℕ)
value_of name [] = None
value_of name (word ∷ []) = None
value_of name (word ∷ value ∷ words) = if bytes_eq word (word_of name) then Some value else value_of name words

-- is it an option, and none of those behind it?
abbrev pub is_new : Option Name → List (List ℕ) → Bool
is_new None words = false
is_new (Some name) words = is_none (value_of name words)

-- the words are options among these with their values, each at most once
abbrev pub are_options : List Name → List (List ℕ) → Bool
are_options names [] = true
are_options names (word ∷ []) = false
are_options names (word ∷ value ∷ words) = is_new (option_of names word) words && are_options names words

-- ---- what the options say
abbrev pub presentation_given : List (List ℕ) → Option ℕ
presentation_given words = option_and_then presentation_of (value_of Presentation words)

abbrev pub bits_given : List (List ℕ) → Option ℕ
bits_given words = bits_by (value_of Bits words)

abbrev pub number_given : Name → List (List ℕ) → Option ℕ
number_given name words = option_and_then number_of (value_of name words)

abbrev pub kind_given : List (List ℕ) → Option Kind
kind_given words = option_and_then kind_of (value_of Format words)

abbrev pub mix_given : List (List ℕ) → Option Mix
mix_given words = mix_by (value_of Mixed words)

-- a profile by what is said of it
abbrev pub profile_by : Option Kind → Option ℕ → Option ℕ → Option ℕ → Option Mix → Option Profile
profile_by (Some kind) (Some rate) (Some channels) (Some depth) (Some mix) =
    Some (record { kind = kind; rate = rate; channels = channels; depth = depth; mix = mix })
profile_by kind rate channels depth mix = None

abbrev pub profile_given : List (List ℕ) → Option Profile
profile_given words =
    profile_by (kind_given words) (option_and_then rate_of (value_of Rate words))
    (option_and_then channels_of (value_of Channels words))
    (option_and_then depth_of (value_of Bits words)) (mix_given words)

abbrev pub units_given : List (List ℕ) → Option ℕ
units_given words = option_and_then units_of (value_of Units words)

abbrev pub seed_given : List (List ℕ) → Option ℕ
seed_given words = option_and_then seed_of (value_of Seed words)

-- ---- commands

-- a command by one number, or by two
abbrev pub by_one : (ℕ → Command) → Option ℕ → Option Command
by_one command None = None
by_one command (Some a) = Some (command a)

abbrev pub by_two : (ℕ → ℕ → Command) → Option ℕ → Option ℕ → Option Command
by_two command None b = None
by_two command (Some a) b = by_one (command a) b

-- .. by a format and a mix
abbrev pub by_format : Option Kind → Option Mix → Option Command
by_format (Some kind) (Some mix) = Some (command.EncodeWav kind mix)
by_format kind mix = None

-- .. by a profile, a number of units and a seed
abbrev pub by_seed : Option Profile → Option ℕ → Option ℕ → Option Command
by_seed (Some profile) (Some units) (Some seed) = Some (command.Gen profile units seed)
by_seed profile units seed = None

abbrev pub command_of : List (List ℕ) → Verb → Option Command
command_of words verb.DecodeRaw = by_two command.DecodeRaw (presentation_given words) (bits_given words)
command_of words verb.DecodeWav = by_two command.DecodeWav (presentation_given words) (bits_given words)
command_of words verb.Extract = by_one command.Extract (presentation_given words)
command_of words verb.List = Some command.List
command_of words verb.Check = by_one command.Check (presentation_given words)
command_of words verb.Cut = by_two command.Cut (number_given First words) (number_given Count words)
command_of words verb.Recover = by_one command.Recover (presentation_given words)
command_of words verb.Retime = Some command.Retime
command_of words verb.EncodeRaw = option_map command.EncodeRaw (profile_given words)
command_of words verb.EncodeWav = by_format (kind_given words) (mix_given words)
command_of words verb.Gen = by_seed (profile_given words) (units_given words) (seed_given words)

abbrev pub with_options : List (List ℕ) → Verb → Option Command
with_options words verb = if are_options (options_of verb) words then command_of words verb else None

-- the command of a plain form; all other words have none
abbrev pub plain : List (List ℕ) → Option Command
plain [] = None
plain (word ∷ words) = option_and_then (with_options words) (verb_of word)

-- the presentation that a line names
abbrev pub presentation_in : Option Command → ℕ
presentation_in None = 0
presentation_in (Some (command.DecodeRaw presentation bits)) = presentation
presentation_in (Some (command.DecodeWav presentation bits)) = presentation
presentation_in (Some (command.Extract presentation)) = presentation
presentation_in (Some command.List) = 0
presentation_in (Some (command.Check presentation)) = presentation
presentation_in (Some (command.Cut first count)) = 0
presentation_in (Some (command.Recover presentation)) = presentation
presentation_in (Some command.Retime) = 0
presentation_in (Some (command.EncodeRaw profile)) = 0
presentation_in (Some (command.EncodeWav kind mix)) = 0
presentation_in (Some (command.Gen profile units seed)) = 0

-- the bits of a sample in what a command writes
abbrev pub bits_in : Option Command → ℕ
bits_in (Some (command.DecodeRaw presentation bits)) = bits
bits_in (Some (command.DecodeWav presentation bits)) = bits
bits_in command = 24

-- the access units that a command makes
abbrev pub units_in : Option Command → ℕ
units_in (Some (command.Gen profile units seed)) = units
units_in command = 1

-- there is a presentation of this number, samples have so many bits, and so many units can be made
abbrev pub IsKnown : Option Command → Type 0
IsKnown command =
    (presentation_in command ≤ 2) × ((bits_in command ≡ 16) ⊎ (bits_in command ≡ 24))
    × (1 ≤ units_in command) × (units_in command ≤ 100000)
