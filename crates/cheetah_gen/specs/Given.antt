-- What `cheetah` reads of the generated files.
use Rattle.ch_bind.specs.Binding.{PlainBound, bound_of}
use Rattle.ch_generated.specs.declared.Request.{Request}
use Rattle.ch_generated_laws.specs.Queries.{select_of, shapes_of, tables_of}
use Rattle.ch_generated_laws.specs.Steps.{schedule_of}
use Rattle.ch_ir.specs.Profile.{default_settings}
use Rattle.cheetah_inputs.specs.Inputs.{Given}

-- the bound query
abbrev pub query_of : Request → PlainBound
query_of request = bound_of (select_of request.kind) (shapes_of request)

-- the default profile, the schedule and the tables that are drawn, and the query over them
abbrev pub given_by : Request → Given
given_by request = record { profile = default_settings; schedule = schedule_of request; tables = tables_of request; query = query_of request }
