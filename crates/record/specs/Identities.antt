-- What tells channels apart.
use Rattle.record.specs.declared.Fields.{Fields}
use Rattle.record.specs.declared.Identity.{Identity}

-- the device type and the identification number
abbrev pub identity_of : Fields → Identity
identity_of fields = record { device_type = fields.device_type; identification = fields.identification }
