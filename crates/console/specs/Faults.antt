-- What is written of what can be wrong with a line.
use Rattle.std.specs.Prelude.{ℕ, List, codes}
use Rattle.console.specs.declared.fault.Fault.{Fault}
use Rattle.console.specs.declared.fault.Fault.TheVariants.{LineTooLong, UnknownCommand, NotANumber, NumberTooLarge, TooManyNumbers, TooFewNumbers, NotHexadecimal, SheetTooLong, CapacitiesSet, NoPath, NoUnit, NotAMeter, NotAnOperator, NoSuchWord}

abbrev pub fault_text : Fault → List ℕ
fault_text LineTooLong = codes "line too long"
fault_text UnknownCommand = codes "unknown command"
fault_text NotANumber = codes "not a number"
fault_text NumberTooLarge = codes "number too large"
fault_text TooManyNumbers = codes "too many numbers"
fault_text TooFewNumbers = codes "too few numbers"
fault_text NotHexadecimal = codes "not hexadecimal"
fault_text SheetTooLong = codes "sheet too long"
fault_text CapacitiesSet = codes "capacities are set before the first path is held"
fault_text NoPath = codes "no path"
fault_text NoUnit = codes "no unit"
fault_text NotAMeter = codes "not a meter"
fault_text NotAnOperator = codes "not an operator"
fault_text NoSuchWord = codes "no such word"
