pub mod LogsWritten
pub mod FieldsWritten
pub mod MethodsWritten
