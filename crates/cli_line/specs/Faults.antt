-- What an error of the parser means.
use Rattle.clap.specs.declared.error.kind.ErrorKind.{ErrorKind}
use Rattle.clap.specs.declared.error.kind.ErrorKind.TheVariants as kinds
use Rattle.cli_line.specs.declared.fault.LineFault.{LineFault}
use Rattle.cli_line.specs.declared.fault.LineFault.TheVariants.{Help, Version, WrongUse, NoMemory}
use Rattle.cli_line.specs.declared.topic.Topic.{Topic}

-- the fault for an error of the parser: help on the topic, the version, out of memory, and otherwise wrong use
abbrev pub fault_of_kind : Topic → ErrorKind → LineFault
fault_of_kind topic kinds.DisplayHelp = Help topic
fault_of_kind topic kinds.DisplayVersion = Version
fault_of_kind topic kinds.OutOfMemory = NoMemory
fault_of_kind topic _ = WrongUse
