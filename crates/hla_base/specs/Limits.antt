-- The limits of this profile. src/limits.rt names each but the last alike, in capitals, and says what comes past it
use Rattle.std.specs.Prelude.{ℕ}

abbrev pub max_joins : ℕ
max_joins = 16

abbrev pub max_federate_name : ℕ
max_federate_name = 64

abbrev pub max_execution_name : ℕ
max_execution_name = 64

abbrev pub max_name : ℕ
max_name = 255

abbrev pub max_classes : ℕ
max_classes = 512

abbrev pub max_attributes : ℕ
max_attributes = 4096

abbrev pub max_parameters : ℕ
max_parameters = 4096

abbrev pub max_objects : ℕ
max_objects = 4096

abbrev pub max_point_label : ℕ
max_point_label = 64

abbrev pub max_open_points : ℕ
max_open_points = 64

abbrev pub max_value : ℕ
max_value = 1024

abbrev pub max_fed_file : ℕ
max_fed_file = 1048576

abbrev pub max_fed_nesting : ℕ
max_fed_nesting = 64

abbrev pub max_script : ℕ
max_script = 1048576

abbrev pub max_script_line : ℕ
max_script_line = 4096

abbrev pub max_history : ℕ
max_history = 32768

abbrev pub max_history_limit : ℕ
max_history_limit = 1048576

abbrev pub max_couriers : ℕ
max_couriers = 1024

abbrev pub max_callers : ℕ
max_callers = 2048

abbrev pub ledger_parts : ℕ
ledger_parts = 2049

abbrev pub max_monitors : ℕ
max_monitors = 8

abbrev pub max_executions : ℕ
max_executions = 16

abbrev pub max_creates : ℕ
max_creates = 64

-- the largest time, stamp and lookahead
abbrev pub max_time : ℕ
max_time = 1000000000000000000

abbrev pub max_serial : ℕ
max_serial = 1000000000000000000

abbrev pub max_enablings : ℕ
max_enablings = 1000000000000000000

-- above every time, stamp, floor and bound
abbrev pub forever : ℕ
forever = 18446744073709551615

-- the largest number of 64 bits, where it is no time
abbrev pub largest_number : ℕ
largest_number = 18446744073709551615
