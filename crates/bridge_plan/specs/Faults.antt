-- What is wrong with a plan's text, and how it is told.
use Rattle.std.specs.Prelude.{◌≡◌, ℕ, List, Result, Ok, Err, codes}
use Rattle.fsw_base.specs.declared.script_faults.ScriptFault.{ScriptFault}
use Rattle.fsw_base.specs.ScriptFaults.{fault_name as kind_name}
use Rattle.app_script.specs.declared.fail.ReadFail.{ReadFail}
use Rattle.app_script.specs.declared.fail.ReadFail.TheVariants as reads
use Rattle.bridge_plan.specs.declared.fail.PlanFail.{PlanFail}
use Rattle.bridge_plan.specs.declared.fail.PlanFail.TheVariants.{Memory, Fault}
use Rattle.bridge_plan.specs.declared.fail.PlanFault.{PlanFault}
use Rattle.bridge_plan.specs.declared.fail.PlanFault.TheVariants.{MissingPart, Script}

-- the line that a fault names: 0 if it is the whole text's
abbrev pub fault_line : PlanFault → ℕ
fault_line MissingPart = 0
fault_line (Script fault) = fault.line

-- the name that the program prints
abbrev pub fault_name : PlanFault → List ℕ
fault_name MissingPart = codes "MissingPart"
fault_name (Script fault) = kind_name fault.kind

-- a failure to read lines, as one to read the plan
abbrev pub plan_fail_of : ReadFail → PlanFail
plan_fail_of (reads.Memory error) = Memory error
plan_fail_of (reads.Fault fault) = Fault (Script fault)

-- what lines give, or their fault, as what the plan gives
abbrev pub in_plan : {A : Type 0} → Result A ScriptFault → Result A PlanFault
in_plan (Ok x) = Ok x
in_plan (Err fault) = Err (Script fault)

-- a failure is the reading's fault, unless memory ran out
abbrev pub FailsPlan : {Y : Type 0} → PlanFail → Result Y PlanFault → Type 0
FailsPlan (Memory error) reading = Unit {0}
FailsPlan (Fault fault) reading = reading ≡ Err fault

-- what a function returned is this reading, unless memory ran out
abbrev pub GivesPlan : {Y : Type 0} → Result Y PlanFail → Result Y PlanFault → Type 0
GivesPlan (Ok x) reading = reading ≡ Ok x
GivesPlan (Err failure) reading = FailsPlan failure reading
