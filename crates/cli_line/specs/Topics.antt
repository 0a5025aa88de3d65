-- The topics of help.
use Rattle.std.specs.Prelude.{List, [], ◌∷◌, codes, if◌then◌else◌}
use Rattle.std.specs.Str.{bytes_eq}
use Rattle.clap.specs.Walk.{Text}
use Rattle.cli_line.specs.declared.topic.Topic.{Topic}
use Rattle.cli_line.specs.declared.topic.Topic.TheVariants.{Program, Check, Run, Serve, Print}

-- the command of this name, or the program if no command has it
abbrev pub topic_named : Text → Topic
topic_named word =
    if bytes_eq word (codes "check") then Check
    else if bytes_eq word (codes "run") then Run
    else if bytes_eq word (codes "serve") then Serve
    else if bytes_eq word (codes "print") then Print
    else Program

-- the command that the first word names, otherwise the program
abbrev pub topic_of : List Text → Topic
topic_of [] = Program
topic_of (word ∷ words) = topic_named word
