-- What is written of what can be wrong with a line of a path's text.
use Rattle.std.specs.Prelude.{ℕ, List, ◌++◌, codes}
use Rattle.console.specs.Faults.{fault_text}
use Rattle.compose.specs.declared.fault.PathFault.{PathFault}
use Rattle.compose.specs.declared.fault.PathFault.TheVariants.{Line, UnknownWord, OutOfRange, DelayerTooLong, LinkMissing, DeclarationMissing, WantedMissing, LineMissing, LineTooMany}

abbrev pub path_fault_text : PathFault → List ℕ
path_fault_text (Line why) = fault_text why
path_fault_text UnknownWord = codes "unknown word"
path_fault_text (OutOfRange what) = what.now
path_fault_text DelayerTooLong = codes "delayer of more than 64 slots"
path_fault_text LinkMissing = codes "link is missing"
path_fault_text DeclarationMissing = codes "smooth, uniform or rows is missing here"
path_fault_text WantedMissing = codes "wanted is missing here"
path_fault_text LineMissing = codes "a line is missing"
path_fault_text LineTooMany = codes "a line too many"
