-- Steps in a span.
pub mod Span
