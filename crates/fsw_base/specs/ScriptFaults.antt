-- The names that the program prints for faults of a script.
use Rattle.std.specs.Prelude.{ℕ, List, codes}
use Rattle.fsw_base.specs.declared.script_faults.FaultKind.{FaultKind}
use Rattle.fsw_base.specs.declared.script_faults.FaultKind.TheVariants.{LineTooLong, BadByte, UnknownWord, Misplaced, WrongCount, BadWord, OutOfRange, BadImage, Repeated, TooManyApps, TooManyCalls, TooManyBytes, TooLarge, NoApp}

abbrev pub fault_name : FaultKind → List ℕ
fault_name LineTooLong = codes "LineTooLong"
fault_name BadByte = codes "BadByte"
fault_name UnknownWord = codes "UnknownWord"
fault_name Misplaced = codes "Misplaced"
fault_name WrongCount = codes "WrongCount"
fault_name BadWord = codes "BadWord"
fault_name OutOfRange = codes "OutOfRange"
fault_name BadImage = codes "BadImage"
fault_name Repeated = codes "Repeated"
fault_name TooManyApps = codes "TooManyApps"
fault_name TooManyCalls = codes "TooManyCalls"
fault_name TooManyBytes = codes "TooManyBytes"
fault_name TooLarge = codes "TooLarge"
fault_name NoApp = codes "NoApp"
