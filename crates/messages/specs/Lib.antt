pub mod Acknowledgements
pub mod PushHeaders
